-- An output goes on to stand for the plain one.
use Rattle.std.proofs.Common.{◌≡◌, ℕ, ◌+◌, ◌-◌, ◌≤◌, Bool, List, [], ◌∷◌, ◌++◌, take, drop, length, refl, sym, ap, subst, ◌∙◌, arith, length-append, Option, Some, None}
use Rattle.std.specs.Prelude.{unwrap_or}
use Rattle.std.proofs.lemmas.List.{drop-drop, length-take-le, drop-append-le, take-append-drop}
use Rattle.dpc_lists.specs.Lists.{nth, changed}
use Rattle.dpc_model.specs.Parts.{Stream, Outputs, shown_of}
use Rattle.dpc_model.specs.PartStands.{OutputValue, StandsForOutput}
use Rattle.dpc_model.specs.Sessions.{Acked, no_session, base_after, after_ack, given_items, batches_of, with_batches, Answered, answer_to, view_items}
use Rattle.dpc_model.specs.declared.tuples.Tuple.{Tuple}
use Rattle.dpc_model.specs.declared.tuples.Item.{Item}
use Rattle.dpc_model.specs.declared.tuples.Item.TheVariants.{Undo}
use Rattle.dpc_model.specs.declared.sessions.Sub.{Sub}
use Rattle.dpc_model.proofs.Numbers.{base-within}
use Rattle.soutput.specs.Giving.{given_behind, fresh_items, with_batch_of, with_fresh, with_base_after, stream_behind, answer_behind}
use Rattle.soutput.specs.Laws.{stream_with, outputs_at, GivingStands, UndoingStands, AnsweringStands, AckingStands}

-- cut to its base an output stands for the plain one with that base
base-stands : (s : Stream) (v : OutputValue) (x : Outputs) → StandsForOutput s v x → StandsForOutput s (with_base_after v) (outputs_at (length s.stable) x)
base-stands s v x h =
    let base = base_after x.base x.acks (length s.stable) in
    let same : base_after v.base v.acks v.count ≡ base =
    ap (λ (n : ℕ). base_after n v.acks v.count) h.base ∙ ap (λ (acks : List Acked). base_after x.base acks v.count) h.acks ∙ ap (λ (n : ℕ). base_after x.base x.acks n) h.count in
    let low : x.base ≤ base = omega arith in
    record {
      count = h.count;
      within = base-within x.base _ (length s.stable) h.within;
      kept =
          ap (λ (n : ℕ). drop (n - v.base) v.kept) same ∙ ap (λ (ts : List Tuple). drop (base - v.base) ts) h.kept ∙ drop-drop (base - v.base) x.base s.stable
          ∙ ap (λ (n : ℕ). drop n s.stable) (let from = h.base in omega (arith, low, from));
      base = same;
      bound = h.bound;
      tentative = h.tentative;
      passed = h.passed;
      subs = h.subs;
      acks = h.acks;
    }

pub giving-stands : GivingStands
giving-stands new s v x h =
    let items = given_items (length s.stable) (given_behind (length s.stable) new) in
    let same : fresh_items v new ≡ items = ap (λ (n : ℕ). given_items n (given_behind n new)) h.count in
    let long = length-append s.stable new.stable in
    let within = h.within in
    let wider : StandsForOutput (stream_with new s) (with_batch_of (fresh_items v new) (with_fresh new v)) (record x { subs = with_batches items x.subs }) =
    record {
      count = ap (λ (n : ℕ). n + length new.stable) h.count ∙ sym long;
      within = omega (arith, long, within);
      kept = ap (λ (ts : List Tuple). ts ++ new.stable) h.kept ∙ sym (drop-append-le x.base s.stable new.stable within);
      base = h.base;
      bound = ap (λ (b : ℕ). unwrap_or new.bound b) h.bound;
      tentative = ap (λ (ts : List Tuple). ts ++ new.tentative) h.tentative;
      passed = ap (λ (o : Option ℕ). elim new.passed [ None ↦ o | Some b ↦ Some b ]) h.passed;
      subs = ap (λ (is : List Item). with_batches is v.subs) same ∙ ap (λ (subs : List Sub). with_batches items subs) h.subs;
      acks = h.acks;
    } in
    (ap (λ (is : List Item). batches_of is v.subs) same ∙ ap (λ (subs : List Sub). batches_of items subs) h.subs, base-stands (stream_with new s) _ _ wider)

pub undoing-stands : UndoingStands
undoing-stands s v x h =
    let items = Undo (length s.stable) ∷ [] in
    let same : Undo v.count ∷ [] ≡ items = ap (λ (n : ℕ). Undo n ∷ []) h.count in (
      ap (λ (is : List Item). batches_of is v.subs) same ∙ ap (λ (subs : List Sub). batches_of items subs) h.subs,
      record {
        count = h.count;
        within = h.within;
        kept = h.kept;
        base = h.base;
        bound = h.bound;
        tentative = refl;
        passed = refl;
        subs = ap (λ (is : List Item). with_batches is v.subs) same ∙ ap (λ (subs : List Sub). with_batches items subs) h.subs;
        acks = h.acks;
      },
    )

-- what is kept is what follows the tuples before the base
stream-is : (s : Stream) (v : OutputValue) (x : Outputs) → StandsForOutput s v x → stream_behind (take x.base s.stable) v ≡ s
stream-is s v x h =
    ap (λ (ts : List Tuple). record { stable = ts; bound = v.bound; tentative = v.tentative; passed = v.passed }) (ap (λ (ts : List Tuple). take x.base s.stable ++ ts) h.kept ∙ take-append-drop x.base s.stable)
    ∙ ap (λ (b : ℕ). record { stable = s.stable; bound = b; tentative = v.tentative; passed = v.passed }) h.bound
    ∙ ap (λ (ts : List Tuple). record { stable = s.stable; bound = s.bound; tentative = ts; passed = v.passed }) h.tentative
    ∙ ap (λ (o : Option ℕ). record { stable = s.stable; bound = s.bound; tentative = s.tentative; passed = o }) h.passed

pub answering-stands : AnsweringStands
answering-stands stable_now k asked told s v w x h a =
    let gone = take x.base s.stable in
    let long : length gone ≡ v.base = length-take-le x.base s.stable h.within ∙ sym h.base in
    let same : answer_behind gone v stable_now k asked ≡ answer_to (shown_of s x.base stable_now) (nth no_session x.subs k) asked =
    ap (λ (t : Stream). answer_to (shown_of t v.base stable_now) (nth no_session v.subs k) asked) (stream-is s v x h)
    ∙ ap (λ (b : ℕ). answer_to (shown_of s b stable_now) (nth no_session v.subs k) asked) h.base
    ∙ ap (λ (subs : List Sub). answer_to (shown_of s x.base stable_now) (nth no_session subs k) asked) h.subs in
    let r = answer_to (shown_of s x.base stable_now) (nth no_session x.subs k) asked in (
      a.answer gone long ∙ ap (λ (r : Answered). r.answer) same,
      subst (λ (u : OutputValue). StandsForOutput s u (record x { subs = changed k (λ _. r.after) x.subs }))
          (sym (a.after gone long ∙ ap (λ (r : Answered). record v { subs = changed k (λ _. r.after) v.subs }) same))
          (record {
            count = h.count;
            within = h.within;
            kept = h.kept;
            base = h.base;
            bound = h.bound;
            tentative = h.tentative;
            passed = h.passed;
            subs = ap (λ (subs : List Sub). changed k (λ _. r.after) subs) h.subs;
            acks = h.acks;
          }),
    )

-- what a reader that holds nothing tentative is sent first is what the plain output shows
pub view-stands : (stable_now : Bool) (items : List Item) (s : Stream) (v : OutputValue) (x : Outputs) → StandsForOutput s v x →
    ((gone : List Tuple) (stable_now : Bool) → length gone ≡ v.base → items ≡ view_items (shown_of (stream_behind gone v) v.base stable_now)) → items ≡ view_items (shown_of s x.base stable_now)
view-stands stable_now items s v x h told =
    told (take x.base s.stable) stable_now (length-take-le x.base s.stable h.within ∙ sym h.base)
    ∙ ap (λ (t : Stream). view_items (shown_of t v.base stable_now)) (stream-is s v x h)
    ∙ ap (λ (b : ℕ). view_items (shown_of s b stable_now)) h.base

pub acking-stands : AckingStands
acking-stands k i n s v x h =
    base-stands s (record v { acks = changed k (after_ack i n) v.acks }) (record x { acks = changed k (after_ack i n) x.acks })
    (record {
      count = h.count;
      within = h.within;
      kept = h.kept;
      base = h.base;
      bound = h.bound;
      tentative = h.tentative;
      passed = h.passed;
      subs = h.subs;
      acks = ap (λ (acks : List Acked). changed k (after_ack i n) acks) h.acks;
    })
