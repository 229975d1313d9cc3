-- What a client takes at an event comes behind what it took before, and is true.
use Rattle.std.proofs.Common.{◌≡◌, ℕ, zero, suc, ◌+◌, true, false, cond, not, ◌||◌, ◌==◌, nat_lt, List, [], ◌∷◌, ◌++◌, length, map, drop, refl, sym, ap, subst, ◌∙◌, Option, Some, None, slice_get, ◌⊎◌, inl, inr}
use Rattle.std.proofs.Math.Seq.{drop-append_seam}
use Rattle.std.proofs.lemmas.List.{append-nil, append_assoc}
use Rattle.dpc_lists.specs.Lists.{IsPrefixOf, nth, changed, place_of, range_with_len}
use Rattle.dpc_model.specs.Reading.{Reader, NoReading, Skipped, Taken as Reads, reading, Folded, fold_items, taken_first}
use Rattle.dpc_model.specs.Inlets.{AfterBatch, take_batch, same_sess, after_missing_batch, after_next_batch}
use Rattle.dpc_model.specs.Actors.{role_of, senders_of}
use Rattle.dpc_model.specs.declared.batches.Taken.TheVariants.{Old}
use Rattle.dpc_model.specs.declared.tuples.Item.{Item}
use Rattle.dpc_model.specs.declared.messages.Event.{Event}
use Rattle.dpc_model.specs.declared.messages.Event.TheVariants.{Deliver, Tick}
use Rattle.dpc_model.specs.declared.messages.Message.{Message}
use Rattle.dpc_model.specs.declared.messages.Message.TheVariants as message
use Rattle.dpc_model.specs.declared.messages.Sess.{Sess}
use Rattle.dpc_model.specs.declared.plans.Plan.{Plan}
use Rattle.dpc_model.specs.declared.plans.StreamRef.{StreamRef}
use Rattle.dpc_model.proofs.Folding.{first_taken}
use Rattle.node_model.specs.Mails.{Packet, Plain, SnapFor}
use Rattle.node_model.specs.Clients.{ClientState, client_stream, new_client, client_after_batch, client_message, client_packet, client_marks_ended, client_after_packet, client_tick_step}
use Rattle.world_model.specs.Worlds.{World, Envelope, client_at, client_stepped, happens, run_from, run, new_world}
use Rattle.world_model.specs.Safe.{AreTrueItems, IsTruePacket, AreTrue}
use Rattle.world_model.proofs.Running.{run_from-append}
use Rattle.law_safety.specs.Plans.{IsCheckedPlan}
use Rattle.law_safety.proofs.EventCases.{AreCases, by-event}
use Rattle.law_safety.proofs.Truth.{AreTrueItems-append}
use Rattle.law_safety.proofs.Senders.{batch_items}
use Rattle.law_safety.proofs.Worlding.{true-at}
use Rattle.law_safety.proofs.Growing.{event-grows}
use Rattle.law_safety.proofs.Happening.{IsFine, happens-next}
use Rattle.law_safety.proofs.Law.{new_world-plan, new_world-fine}
use Rattle.law_granting.proofs.Keys.{nth-changed}
use Rattle.law_session_origins.specs.Standing.{takes}
use Rattle.law_session_origins.proofs.Takings.{event-comes}

pub takes-more : (w : World) (e : Event) (c : ℕ) → (client_at (happens w e) c).taken ≡ (client_at w c).taken ++ takes w e c
takes-more w e c =
    let k = event-comes w c e in
    let old = (client_at w c).taken in
    let new : takes w e c ≡ k.more = ap (λ (is : List Item). drop (length old) is) k.taken ∙ drop-append_seam old k.more in
    k.taken ∙ ap (λ (is : List Item). old ++ is) (sym new)

grows-from : (w : World) (c : ℕ) (events : List Event) → IsPrefixOf (client_at w c).taken (client_at (run_from w events) c).taken
grows-from w c [] = ([], sym (append-nil (client_at w c).taken))
grows-from w c (e ∷ events) =
    let one = takes-more w e c in
    let rest = grows-from (happens w e) c events in
    (takes w e c ++ rest.0, rest.1 ∙ ap (λ (is : List Item). is ++ rest.0) one ∙ append_assoc (client_at w c).taken (takes w e c) rest.0)

pub taken-grows : (plan : Plan) (events later : List Event) (c : ℕ) → IsPrefixOf (client_at (run plan events) c).taken (client_at (run plan (events ++ later)) c).taken
unfolding run
taken-grows plan events later c =
    subst (λ (v : World). IsPrefixOf (client_at (run_from (new_world plan) events) c).taken (client_at v c).taken) (sym (run_from-append (new_world plan) events later)) (grows-from (run_from (new_world plan) events) c later)

-- ---- a batch

-- of true items those that are taken are true
folded-true : (plan : Plan) (s : StreamRef) (r : Reader) (items : List Item) (f : Folded) → fold_items r items ≡ Some f → AreTrueItems plan s items → AreTrueItems plan s f.taken
folded-true plan s r [] f e h = let none : f ≡ record { after = r; taken = [] } = cc in rw none tt
folded-true plan s r (i ∷ items) f e h =
    (elim (reading r i) as (λ y. elim y as (λ _. Option Folded) [ NoReading ↦ None | Skipped ↦ fold_items r items | Reads q ↦ taken_first i (fold_items q items) ] ≡ Some f → AreTrueItems plan s f.taken) [
      | NoReading ↦ λ k. cc
      | Skipped ↦ λ k. folded-true plan s r items f k h.1
      | Reads q ↦ λ k.
          let p = first_taken i (fold_items q items) f k in
          rw p.2 (h.0, folded-true plan s q items p.0 p.1 h.1)
    ]) e

-- what a client took, with what it takes besides
abbrev TookTrue : Plan → StreamRef → ClientState → Type 0
TookTrue plan s x = AreTrueItems plan s x.taken

batch-true : (plan : Plan) (s : StreamRef) (x : ClientState) (u : Sess) (index : ℕ) (items : List Item) → AreTrueItems plan s items → TookTrue plan s x → TookTrue plan s (client_after_batch (take_batch x.port.inlet u index items) x)
unfolding take_batch
batch-true plan s x u index items truth h =
    let q = x.port.inlet in
    elim (not (same_sess u q.sess) || nat_lt index q.next) as (λ c. TookTrue plan s (client_after_batch (cond {A = AfterBatch} c (record { after = q; answer = Old }) (cond (q.broken || nat_lt q.next index) (after_missing_batch q) (after_next_batch q (fold_items q.held items)))) x)) [
      | true ↦ h
      | false ↦ elim (q.broken || nat_lt q.next index) as (λ c. TookTrue plan s (client_after_batch (cond {A = AfterBatch} c (after_missing_batch q) (after_next_batch q (fold_items q.held items))) x)) [
        | true ↦ h
        | false ↦ by-folded (fold_items q.held items) refl
      ]
    ]
  where
    by-folded : (o : Option Folded) → fold_items x.port.inlet.held items ≡ o → TookTrue plan s (client_after_batch (after_next_batch x.port.inlet o) x)
    by-folded None e = h
    by-folded (Some f) e = AreTrueItems-append plan s x.taken f.taken h (folded-true plan s x.port.inlet.held items f e truth)

-- ---- a packet

module _ (plan : Plan) (s : StreamRef) (a r : ℕ) (place : place_of (λ b. a == b) (senders_of plan s) ≡ Some r) where
  message-true : (m : Message) (x : ClientState) → IsTruePacket plan (role_of plan a) (Plain m) → TookTrue plan s x → TookTrue plan s (client_message r m x)
  message-true (message.Batch u index items) x truth h =
      elim (x.port.chosen == r) as (λ b. TookTrue plan s (cond b (client_after_batch (take_batch x.port.inlet u index items) x) x)) [
        | true ↦ batch-true plan s x u index items (batch_items plan s a r u index items place truth) h
        | false ↦ h
      ]
  message-true (message.Truncated u base) x truth h = h
  message-true (message.Beat b) x truth h = h
  message-true (message.Subscribe asked) x truth h = h
  message-true (message.Ack i n) x truth h = h
  message-true (message.Ask i n) x truth h = h
  message-true (message.Grant i n) x truth h = h
  message-true (message.SnapAsk i n) x truth h = h

  packet-true : (packet : Packet) (x : ClientState) → IsTruePacket plan (role_of plan a) packet → TookTrue plan s x → TookTrue plan s (client_packet (Some (0, r)) packet x)
  packet-true (Plain m) x truth h = message-true m x truth h
  packet-true (SnapFor i try snap) x truth h = h

client-true : (plan : Plan) (c a : ℕ) (packet : Packet) (x : ClientState) → IsTruePacket plan (role_of plan a) packet → TookTrue plan (client_stream plan c) x → TookTrue plan (client_stream plan c) (client_after_packet plan c a packet x)
unfolding client_after_packet
client-true plan c a packet x truth h =
    let s = client_stream plan c in
    (elim (place_of (λ b. a == b) (senders_of plan s)) as (λ o. place_of (λ b. a == b) (senders_of plan s) ≡ o →
    TookTrue plan s (client_packet (elim o [ None ↦ None | Some r ↦ Some (0, r) ]) packet (client_marks_ended x))) [
      | None ↦ λ e. h
      | Some r ↦ λ e. packet-true plan s a r e packet (client_marks_ended x) truth h
    ]) refl

client-ticked : (plan : Plan) (c now : ℕ) (x : ClientState) → (client_tick_step plan c now x).after.taken ≡ x.taken
unfolding client_tick_step
client-ticked plan c now x = refl

-- ---- an event

module _ (w : World) (c : ℕ) (sent : AreTrue w.plan w.envelopes) where
  abbrev Keeps : Event → World → Type 0
  Keeps e next = TookTrue w.plan (client_stream w.plan c) (client_at w c) → TookTrue w.plan (client_stream w.plan c) (client_at next c)

  keeps-cases : AreCases w Keeps
  keeps-cases =
      record {
        still = λ e h. h;
        wires = λ e cuts h. h;
        emitted = λ a s t role h. h;
        released = λ a s t role h. h;
        source_took = λ k s e found can role h. h;
        source_ticks = λ a s now role h. h;
        crashed = λ a f r role h. h;
        restarted = λ a i f r role h. h;
        node_took = λ k f r e n found can role up h. h;
        node_ticked = λ a now f r n role up clock h. h;
        node_milled = λ a r f q n role up can h. h;
        client_took = λ k d e found can role. took k d e found (nth-changed (new_client w.plan c) d (client_after_packet w.plan d e.sender e.packet) w.clients c);
        client_ticks = λ a d now role. ticked a d now (nth-changed (new_client w.plan c) d (λ (_ : ClientState). (client_tick_step w.plan d now (client_at w d)).after) w.clients c);
      }
    where
      took : (k d : ℕ) (e : Envelope) → slice_get w.envelopes k ≡ Some e →
          (nth (new_client w.plan c) (changed d (client_after_packet w.plan d e.sender e.packet) w.clients) c ≡ client_at w c)
          ⊎ ((c ≡ d) × (nth (new_client w.plan c) (changed d (client_after_packet w.plan d e.sender e.packet) w.clients) c ≡ client_after_packet w.plan d e.sender e.packet (client_at w c))) →
          Keeps (Deliver k) (record w { clients = changed d (client_after_packet w.plan d e.sender e.packet) w.clients })
      took k d e found (inl same) h = subst (λ (x : ClientState). TookTrue w.plan (client_stream w.plan c) x) (sym same) h
      took k d e found (inr it) h =
          subst (λ (x : ClientState). TookTrue w.plan (client_stream w.plan c) x) (sym it.1)
          (subst (λ (j : ℕ). TookTrue w.plan (client_stream w.plan c) (client_after_packet w.plan j e.sender e.packet (client_at w c))) it.0
          (client-true w.plan c e.sender e.packet (client_at w c) (true-at w.plan w.envelopes k e sent found) h))

      ticked : (a d now : ℕ) → (nth (new_client w.plan c) (changed d (λ (_ : ClientState). (client_tick_step w.plan d now (client_at w d)).after) w.clients) c ≡ client_at w c)
          ⊎ ((c ≡ d) × (nth (new_client w.plan c) (changed d (λ (_ : ClientState). (client_tick_step w.plan d now (client_at w d)).after) w.clients) c ≡ (client_tick_step w.plan d now (client_at w d)).after)) →
          Keeps (Tick a now) (client_stepped a d (client_tick_step w.plan d now (client_at w d)) w)
      ticked a d now (inl same) h = subst (λ (x : ClientState). TookTrue w.plan (client_stream w.plan c) x) (sym same) h
      ticked a d now (inr it) h =
          subst (λ (items : List Item). AreTrueItems w.plan (client_stream w.plan c) items)
          (sym (ap (λ (z : ClientState). z.taken) it.1 ∙ client-ticked w.plan d now (client_at w d) ∙ ap (λ (j : ℕ). (client_at w j).taken) (sym it.0))) h

  event-keeps : (e : Event) → Keeps e (happens w e)
  event-keeps e = by-event w Keeps keeps-cases e

-- ---- a run

trues-from : (w : World) (most c : ℕ) (events : List Event) → IsFine w most → TookTrue w.plan (client_stream w.plan c) (client_at w c) → TookTrue w.plan (client_stream w.plan c) (client_at (run_from w events) c)
trues-from w most c [] fine h = h
trues-from w most c (e ∷ events) fine h =
    let plan = (event-grows w e).plan in
    let now = event-keeps w c fine.sent e h in
    let rest = trues-from (happens w e) (most + 1) c events (happens-next w most e fine).fine (subst (λ (p : Plan). TookTrue p (client_stream p c) (client_at (happens w e) c)) (sym plan) now) in
    subst (λ (p : Plan). TookTrue p (client_stream p c) (client_at (run_from (happens w e) events) c)) plan rest

new-taken : (plan : Plan) (c : ℕ) → (client_at (new_world plan) c).taken ≡ []
unfolding new_world new_client
new-taken plan c = among_new (range_with_len 0 (length plan.clients)) c
  where
    among_new : (ns : List ℕ) (i : ℕ) → (nth (new_client plan c) (map (new_client plan) ns) i).taken ≡ []
    among_new [] i = refl
    among_new (n ∷ ns) zero = refl
    among_new (n ∷ ns) (suc i) = among_new ns i

pub taken-true : (plan : Plan) (events : List Event) (c : ℕ) → IsCheckedPlan plan → AreTrueItems plan (client_stream plan c) (client_at (run plan events) c).taken
unfolding run
taken-true plan events c checked =
    let none : TookTrue plan (client_stream plan c) (client_at (new_world plan) c) = subst (λ (items : List Item). AreTrueItems plan (client_stream plan c) items) (sym (new-taken plan c)) tt in
    let start = subst (λ (p : Plan). TookTrue p (client_stream p c) (client_at (new_world plan) c)) (sym (new_world-plan plan)) none in
    subst (λ (p : Plan). TookTrue p (client_stream p c) (client_at (run_from (new_world plan) events) c)) (new_world-plan plan) (trues-from (new_world plan) 1 c events (new_world-fine plan checked) start)
