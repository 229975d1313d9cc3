-- A client goes on to stand for the plain one where a message comes.
use Rattle.std.proofs.Common.{◌≡◌, ℕ, zero, suc, ◌<◌, ◌==◌, List, [], ◌∷◌, map, length, Option, Some, None, refl, sym, ap, subst, ◌∙◌, arith, slice_index_or}
use Rattle.dpc_lists.specs.Lists.{nth, place_of}
use Rattle.dpc_model.specs.Actors.{senders_of}
use Rattle.dpc_model.specs.Inlets.{new_inlet}
use Rattle.dpc_model.specs.declared.messages.Beat.{Beat}
use Rattle.dpc_model.specs.declared.messages.Message.{Message}
use Rattle.dpc_model.specs.declared.messages.Message.TheVariants as message
use Rattle.dpc_model.specs.declared.messages.Sess.{Sess}
use Rattle.dpc_model.specs.declared.tuples.Item.{Item}
use Rattle.dpc_model.specs.declared.plans.ClientSpec.{ClientSpec}
use Rattle.dpc_model.specs.declared.plans.Plan.{Plan}
use Rattle.dpc_model.specs.declared.plans.StreamRef.TheVariants.{Source}
use Rattle.upstream.specs.Upstreams.{new_upstream}
use Rattle.dpc_lists.proofs.Places.{place-within}
use Rattle.node_model.specs.Clients.{client_stream, new_client, client_message, client_marks_ended, client_packet, client_after_packet}
use Rattle.node_model.specs.Mails.{Plain}
use Rattle.client_fold.specs.Folding.{ClientValue, StandsForClient, Follows}

-- ---- the first state

-- the input of a client of the plan is its stream
pub stream-in : (c : ℕ) (clients : List ClientSpec) (d : ClientSpec) → c < length clients →
    (slice_index_or clients c d).input ≡ nth (Source 0) (nth [] (map (λ (client : ClientSpec). client.input ∷ []) clients) c) 0
stream-in c [] d low = absurd (omega (arith, low))
stream-in zero (client ∷ clients) d low = refl
stream-in (suc c) (client ∷ clients) d low = stream-in c clients d (omega (arith, low))

abbrev pub new_value : Plan → ℕ → ClientValue
new_value plan c =
    record { end = plan.end; upstream = new_upstream (senders_of plan (client_stream plan c)); inlet = record { count = 0; state = new_inlet 1 }; taken = []; clock = 0 }

pub new-stands : (plan : Plan) (c : ℕ) (v : ClientValue) → v ≡ new_value plan c → StandsForClient plan c v (new_client plan c)
unfolding new_client
new-stands plan c v e =
    subst (λ (w : ClientValue). StandsForClient plan c w (new_client plan c)) (sym e)
    (record { senders = refl; known = refl; inlet = ([], record { count = refl; kept = refl; rest = refl }); end = refl; taken = refl; clock = refl })

-- ---- whom a message comes from

pub replica-within : (sender r : ℕ) (senders : List ℕ) → Some r ≡ place_of (λ a. sender == a) senders → r < length senders
replica-within sender r senders e = place-within (λ a. sender == a) senders r (sym e)

-- the only port, with the replica
abbrev at_port : Option ℕ → Option (ℕ × ℕ)
at_port o = elim o [ None ↦ None | Some r ↦ Some (0, r) ]

-- a message of a replica
pub follows-packet : (sender r : ℕ) (m : Message) (old new : ClientValue) → Some r ≡ place_of (λ a. sender == a) old.upstream.senders →
    Follows (λ plan c x. client_message r m (client_marks_ended x)) old new → Follows (λ plan c x. client_after_packet plan c sender (Plain m) x) old new
unfolding client_after_packet
follows-packet sender r m old new e follows plan c x h =
    let place : place_of (λ a. sender == a) (senders_of plan (client_stream plan c)) ≡ Some r = ap (λ (senders : List ℕ). place_of (λ a. sender == a) senders) (sym h.senders) ∙ sym e in
    subst (λ (o : Option (ℕ × ℕ)). StandsForClient plan c new (client_packet o (Plain m) (client_marks_ended x))) (sym (ap at_port place)) (follows plan c x h)

-- a message of another actor
pub follows-other : (sender : ℕ) (m : Message) (old new : ClientValue) → None ≡ place_of (λ a. sender == a) old.upstream.senders →
    Follows (λ plan c x. client_marks_ended x) old new → Follows (λ plan c x. client_after_packet plan c sender (Plain m) x) old new
unfolding client_after_packet
follows-other sender m old new e follows plan c x h =
    let place : place_of (λ a. sender == a) (senders_of plan (client_stream plan c)) ≡ None = ap (λ (senders : List ℕ). place_of (λ a. sender == a) senders) (sym h.senders) ∙ sym e in
    subst (λ (o : Option (ℕ × ℕ)). StandsForClient plan c new (client_packet o (Plain m) (client_marks_ended x))) (sym (ap at_port place)) (follows plan c x h)

-- of what is no batch, truncation or beat a client takes nothing
pub follows-nothing : (r : ℕ) (m : Message) (old new : ClientValue) → ((s : Sess) (i : ℕ) (items : List Item) → m ≡ message.Batch s i items → ⊥) → ((s : Sess) (base : ℕ) → m ≡ message.Truncated s base → ⊥) →
    ((b : Beat) → m ≡ message.Beat b → ⊥) → Follows (λ plan c x. client_marks_ended x) old new → Follows (λ plan c x. client_message r m (client_marks_ended x)) old new
follows-nothing r (message.Batch s i items) old new batch truncated beat follows = absurd (batch s i items refl)
follows-nothing r (message.Truncated s base) old new batch truncated beat follows = absurd (truncated s base refl)
follows-nothing r (message.Beat b) old new batch truncated beat follows = absurd (beat b refl)
follows-nothing r (message.Subscribe asked) old new batch truncated beat follows = follows
follows-nothing r (message.Ack i n) old new batch truncated beat follows = follows
follows-nothing r (message.Ask i n) old new batch truncated beat follows = follows
follows-nothing r (message.Grant i n) old new batch truncated beat follows = follows
follows-nothing r (message.SnapAsk i n) old new batch truncated beat follows = follows
