-- How an output that forgets goes on to stand for the plain one.
use Rattle.std.specs.Prelude.{◌≡◌, ℕ, Bool, [], ◌∷◌, ◌++◌, length, Option, Some, None, unwrap_or}
use Rattle.dpc_lists.specs.Lists.{nth, changed}
use Rattle.dpc_model.specs.Parts.{Stream, Outputs, shown_of}
use Rattle.dpc_model.specs.PartStands.{OutputValue, StandsForOutput}
use Rattle.dpc_model.specs.Sessions.{no_session, base_after, after_ack, given_items, batches_of, with_batches, answer_to}
use Rattle.dpc_model.specs.declared.tuples.Item.TheVariants.{Undo}
use Rattle.dpc_model.specs.declared.messages.Subscribe.{Subscribe}
use Rattle.dpc_model.specs.declared.messages.Message.{Message}
use Rattle.soutput.specs.declared.fresh.Fresh.{Fresh}
use Rattle.soutput.specs.Giving.{given_behind, fresh_items, with_batch_of, with_base_after, after_giving, without_tentative, IsAnswered}

-- a stream with what is new
abbrev pub stream_with : Fresh → Stream → Stream
stream_with new s =
    record {
      stable = s.stable ++ new.stable;
      bound = unwrap_or new.bound s.bound;
      tentative = s.tentative ++ new.tentative;
      passed = elim new.passed [ None ↦ s.passed | Some b ↦ Some b ];
    }

-- the base follows the acknowledgements of a stream of so many stable tuples
abbrev pub outputs_at : ℕ → Outputs → Outputs
outputs_at count x = record x { base = base_after x.base x.acks count }

-- what is new is appended and given
abbrev pub GivingStands : Type 0
GivingStands =
    (new : Fresh) (s : Stream) (v : OutputValue) (x : Outputs) → StandsForOutput s v x →
    let items = given_items (length s.stable) (given_behind (length s.stable) new) in
    (batches_of (fresh_items v new) v.subs ≡ batches_of items x.subs)
    × StandsForOutput (stream_with new s) (after_giving new v) (outputs_at (length (s.stable ++ new.stable)) (record x { subs = with_batches items x.subs }))

-- the tentative output is taken back
abbrev pub UndoingStands : Type 0
UndoingStands =
    (s : Stream) (v : OutputValue) (x : Outputs) → StandsForOutput s v x →
    let items = Undo (length s.stable) ∷ [] in
    (batches_of (Undo v.count ∷ []) v.subs ≡ batches_of items x.subs)
    × StandsForOutput (record s { tentative = []; passed = None }) (with_batch_of (Undo v.count ∷ []) (without_tentative v)) (record x { subs = with_batches items x.subs })

-- a subscription is answered
abbrev pub AnsweringStands : Type 0
AnsweringStands =
    (stable_now : Bool) (k : ℕ) (asked : Subscribe) (told : Option Message) (s : Stream) (v w : OutputValue) (x : Outputs) →
    StandsForOutput s v x → IsAnswered stable_now k asked v w told →
    let answer = answer_to (shown_of s x.base stable_now) (nth no_session x.subs k) asked in
    (told ≡ answer.answer) × StandsForOutput s w (record x { subs = changed k (λ _. answer.after) x.subs })

-- an acknowledgement is taken
abbrev pub AckingStands : Type 0
AckingStands =
    (k i n : ℕ) (s : Stream) (v : OutputValue) (x : Outputs) → StandsForOutput s v x →
    StandsForOutput s (with_base_after (record v { acks = changed k (after_ack i n) v.acks })) (outputs_at (length s.stable) (record x { acks = changed k (after_ack i n) x.acks }))
