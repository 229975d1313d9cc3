-- Steps of a client.
use Rattle.std.proofs.Common.{◌≡◌, ℕ, zero, suc, ◌+◌, ◌≤◌, true, false, cond, ◌||◌, ◌==◌, nat_lt, List, [], ◌∷◌, ◌++◌, length, take, refl, subst, ◌∙◌, Option, Some, None, slice_get}
use Rattle.std.specs.Prelude.{IsTrue}
use Rattle.dpc_lists.specs.Lists.{list_all, place_of}
use Rattle.dpc_model.specs.Reading.{Reader, empty_reader, NoReading, Skipped, Taken, reading, is_sure, Folded, fold_items, taken_first}
use Rattle.dpc_model.specs.Inlets.{InletState, AfterBatch, take_batch, is_old, after_missing_batch, after_next_batch, new_inlet}
use Rattle.dpc_model.specs.Actors.{role_of, senders_of, inputs_of, reads_from}
use Rattle.dpc_model.specs.declared.actors.Role.TheVariants.{Client as IsClient}
use Rattle.dpc_model.specs.Ports.{held_at, without_ended_marks, port_after_tick, port_after_choice, subscriptions, acks_to}
use Rattle.dpc_model.specs.declared.batches.Taken.{Taken as Answer}
use Rattle.dpc_model.specs.declared.batches.Taken.TheVariants.{Used, Old, Broken}
use Rattle.dpc_model.specs.declared.tuples.Item.{Item}
use Rattle.dpc_model.specs.declared.tuples.Item.TheVariants.{RecDone}
use Rattle.dpc_model.specs.declared.messages.Sess.{Sess}
use Rattle.dpc_model.specs.declared.messages.Message.{Message}
use Rattle.dpc_model.specs.declared.messages.Message.TheVariants as message
use Rattle.dpc_model.specs.declared.plans.Plan.{Plan}
use Rattle.dpc_model.specs.declared.plans.StreamRef.{StreamRef}
use Rattle.dpc_model.proofs.Folding.{fold_items-taken, first_taken}
use Rattle.node_model.specs.Mails.{mails, Packet, Plain, SnapFor}
use Rattle.node_model.specs.Clients.{ClientState, client_stream, new_client, reader_of, with_taken, client_after_batch, client_message, client_packet, client_marks_ended, client_after_packet, client_tick_step}
use Rattle.world_model.specs.Safe.{IsTruePacket, TookDoneSurely, IsSafeClient}
use Rattle.world_model.specs.Orderly.{is_port_sound, carries_fitting}
use Rattle.law_safety.proofs.Senders.{sender_sends}
use Rattle.law_safety.proofs.ClientHolds.{client_delivered-holds, held_at-beat}
use Rattle.law_safety.specs.Plans.{IsChecked, has_senders}
use Rattle.dpc_lists.proofs.Truths.{both, both-of}
use Rattle.law_safety.proofs.SoundPorts.{port-of}
use Rattle.law_safety.proofs.Frames.{marked-sound, ticked-sound}
use Rattle.law_safety.proofs.Emptied.{empty-holds}
use Rattle.law_safety.proofs.Starting.{new-sound}
use Rattle.law_safety.proofs.Taking.{take_batch-sound}
use Rattle.law_safety.proofs.Batches.{took-sound}
use Rattle.law_safety.proofs.Delivered.{truncated-sound, beat-sound, role-fits}
use Rattle.law_safety.proofs.Mailing.{AreMails, mails-append}
use Rattle.law_safety.proofs.Numbering.{senders-read}
use Rattle.law_safety.proofs.Ticked.{chosen-sound, chosen-held, subscribed-mails, acked-mails, Reads}

-- ---- items taken one list after another

pub fold-append : (r : Reader) (xs ys : List Item) (f g : Folded) → fold_items r xs ≡ Some f → fold_items f.after ys ≡ Some g → fold_items r (xs ++ ys) ≡ Some (record { after = g.after; taken = f.taken ++ g.taken })
fold-append r [] ys f g e d = let same : f ≡ record { after = r; taken = [] } = cc in rw same (rw same at d)
fold-append r (x ∷ xs) ys f g e d =
    (elim (reading r x) as (λ o. reading r x ≡ o → elim o [ NoReading ↦ None | Skipped ↦ fold_items r xs | Taken r' ↦ taken_first x (fold_items r' xs) ] ≡ Some f →
    elim o [ NoReading ↦ None | Skipped ↦ fold_items r (xs ++ ys) | Taken r' ↦ taken_first x (fold_items r' (xs ++ ys)) ] ≡ Some (record { after = g.after; taken = f.taken ++ g.taken })) [
      | NoReading ↦ λ q h. cc
      | Skipped ↦ λ q h. fold-append r xs ys f g h d
      | Taken r' ↦ λ q h.
          let p = first_taken x (fold_items r' xs) f h in
          rw p.2 (rw (fold-append r' xs ys p.0 g p.1 (rw p.2 at d)) refl)
    ]) refl e

-- RecDone is read only where nothing is tentative
done-surely : (r : Reader) (items : List Item) (g : Folded) → fold_items r items ≡ Some g → (i : ℕ) (f : Folded) → slice_get items i ≡ Some RecDone → fold_items r (take i items) ≡ Some f → IsTrue (is_sure f.after)
done-surely r [] g e i f at d = cc
done-surely r (x ∷ items) g e zero f at d =
    let same : x ≡ RecDone = cc in
    let start : f ≡ record { after = r; taken = [] } = cc in
    rw start ((elim (is_sure r) as (λ c. elim (cond c (Taken r) NoReading) [ NoReading ↦ None | Skipped ↦ fold_items r items | Taken s ↦ taken_first RecDone (fold_items s items) ] ≡ Some g → c ≡ true) [
      | true ↦ λ h. refl
      | false ↦ λ h. cc
    ]) (subst (λ (y : Item). fold_items r (y ∷ items) ≡ Some g) same e))
done-surely r (x ∷ items) g e (suc i) f at d =
    (elim (reading r x) as (λ o. elim o [ NoReading ↦ None | Skipped ↦ fold_items r items | Taken s ↦ taken_first x (fold_items s items) ] ≡ Some g →
    elim o [ NoReading ↦ None | Skipped ↦ fold_items r (take i items) | Taken s ↦ taken_first x (fold_items s (take i items)) ] ≡ Some f → IsTrue (is_sure f.after)) [
      | NoReading ↦ λ h k. cc
      | Skipped ↦ λ h k. done-surely r items g h i f at k
      | Taken s ↦ λ h k.
          let p = first_taken x (fold_items s items) g h in
          let q = first_taken x (fold_items s (take i items)) f k in
          rw q.2 (done-surely s items p.0 p.1 i q.0 at q.1)
    ]) e d

pub took-done : (items : List Item) (g : Folded) → fold_items empty_reader items ≡ Some g → TookDoneSurely items
took-done items g e i f at d = done-surely empty_reader items g e i f at d

-- ---- what a client took

-- what it holds is what it took, folded
abbrev pub IsFolded : ClientState → Type 0
IsFolded x = fold_items empty_reader x.taken ≡ Some (record { after = reader_of x; taken = x.taken })

-- a batch's answer, from where the reader stood
record TookFrom (r : Reader) (t : AfterBatch) : Type 0 where
  used : (items : List Item) → t.answer ≡ Used items → fold_items r items ≡ Some (record { after = t.after.held; taken = items })
  old : t.answer ≡ Old → t.after.held ≡ r
  broken : t.answer ≡ Broken → t.after.held ≡ r

used-from : (inlet : InletState) (items : List Item) (o : Option Folded) → fold_items inlet.held items ≡ o → TookFrom inlet.held (after_next_batch inlet o)
used-from inlet items None e = record { used = λ xs f. cc; old = λ f. cc; broken = λ f. refl }
used-from inlet items (Some g) e =
    record {
      used = λ xs f. let same : xs ≡ g.taken = cc in rw same (fold_items-taken inlet.held items g e);
      old = λ f. cc;
      broken = λ f. cc;
    }

took-from : (inlet : InletState) (u : Sess) (index : ℕ) (items : List Item) → TookFrom inlet.held (take_batch inlet u index items)
unfolding take_batch
took-from inlet u index items =
    elim (is_old inlet u index) as (λ c. TookFrom inlet.held (cond c (record { after = inlet; answer = Old }) (cond (inlet.broken || nat_lt inlet.next index) (after_missing_batch inlet) (after_next_batch inlet (fold_items inlet.held items))))) [
      | true ↦ record { used = λ xs f. cc; old = λ f. refl; broken = λ f. cc }
      | false ↦ elim (inlet.broken || nat_lt inlet.next index) as (λ c. TookFrom inlet.held (cond c (after_missing_batch inlet) (after_next_batch inlet (fold_items inlet.held items)))) [
        | true ↦ record { used = λ xs f. cc; old = λ f. cc; broken = λ f. refl }
        | false ↦ used-from inlet items (fold_items inlet.held items) refl
      ]
    ]

keeping-folded : (t : AfterBatch) (x : ClientState) → IsFolded x → TookFrom (reader_of x) t → IsFolded (client_after_batch t x)
keeping-folded t x h k = by-answer t.answer refl
  where
    y : ClientState
    y = record x { port = record x.port { inlet = t.after } }

    by-answer : (answer : Answer) → t.answer ≡ answer → IsFolded (with_taken answer (record x { port = record x.port { inlet = t.after } }))
    by-answer (Used items) e = fold-append empty_reader x.taken items (record { after = reader_of x; taken = x.taken }) (record { after = t.after.held; taken = items }) h (k.used items e)
    by-answer Old e = rw (k.old e) h
    by-answer Broken e = rw (k.broken e) h

-- ---- a packet

pub record IsGoodClient (plan : Plan) (c most : ℕ) (x : ClientState) : Type 0 where
  pub safe : IsSafeClient plan (client_stream plan c) x
  pub sound : is_port_sound plan (client_stream plan c) 1 most x.port ≡ true

-- the folded items and the port after a message
record IsKept (plan : Plan) (c most : ℕ) (x : ClientState) : Type 0 where
  folded : IsFolded x
  sound : is_port_sound plan (client_stream plan c) 1 most x.port ≡ true

message-kept : (plan : Plan) (c most a r : ℕ) (m : Message) (x : ClientState) → place_of (λ b. a == b) (senders_of plan (client_stream plan c)) ≡ Some r → carries_fitting plan (role_of plan a) (Plain m) ≡ true →
    IsKept plan c most x → IsKept plan c most (client_message r m x)
message-kept plan c most a r (message.Batch u index items) x place fits k =
    elim (x.port.chosen == r) as (λ b. IsKept plan c most (cond b (client_after_batch (take_batch x.port.inlet u index items) x) x)) [
      | true ↦
          let t = take_batch x.port.inlet u index items in
          let s = client_stream plan c in
          let p = port-of plan s 1 most x.port k.sound in
          let taken = take_batch-sound plan s x.port.inlet u index items (record { past = p.past; fits = p.fits }) (role-fits plan s (role_of plan a) u index items (sender_sends plan s a r place) fits) in
          record {
            folded = keeping-folded t x k.folded (took-from x.port.inlet u index items);
            sound = keeping-sound t.answer (record x { port = record x.port { inlet = t.after } }) (took-sound plan s 1 most x.port t taken k.sound);
          }
      | false ↦ k
    ]
  where
    keeping-sound : (answer : Answer) (y : ClientState) → is_port_sound plan (client_stream plan c) 1 most y.port ≡ true → is_port_sound plan (client_stream plan c) 1 most (with_taken answer y).port ≡ true
    keeping-sound (Used items) y h = h
    keeping-sound Old y h = h
    keeping-sound Broken y h = h
message-kept plan c most a r (message.Subscribe asked) x place fits k = k
message-kept plan c most a r (message.Truncated u base) x place fits k =
    record {
      folded = k.folded;
      sound = truncated-sound plan (client_stream plan c) 1 most r u base x.port k.sound;
    }
message-kept plan c most a r (message.Beat b) x place fits k =
    record { folded = rw (held_at-beat r b x.port) k.folded; sound = beat-sound plan (client_stream plan c) 1 most r b x.port k.sound }
message-kept plan c most a r (message.Ack i n) x place fits k = k
message-kept plan c most a r (message.Ask i n) x place fits k = k
message-kept plan c most a r (message.Grant i n) x place fits k = k
message-kept plan c most a r (message.SnapAsk i n) x place fits k = k

packet-kept : (plan : Plan) (c most a r : ℕ) (packet : Packet) (x : ClientState) → place_of (λ b. a == b) (senders_of plan (client_stream plan c)) ≡ Some r → carries_fitting plan (role_of plan a) packet ≡ true →
    IsKept plan c most x → IsKept plan c most (client_packet (Some (0, r)) packet x)
packet-kept plan c most a r (Plain m) x place fits k = message-kept plan c most a r m x place fits k
packet-kept plan c most a r (SnapFor i try snap) x place fits k = k

delivered-kept : (plan : Plan) (c most a : ℕ) (packet : Packet) (x : ClientState) → carries_fitting plan (role_of plan a) packet ≡ true → IsKept plan c most x → IsKept plan c most (client_after_packet plan c a packet x)
unfolding client_after_packet
delivered-kept plan c most a packet x fits k =
    let y = client_marks_ended x in
    let start : IsKept plan c most y = record { folded = k.folded; sound = marked-sound plan (client_stream plan c) 1 most x.port k.sound } in
    (elim (place_of (λ b. a == b) (senders_of plan (client_stream plan c))) as (λ o. place_of (λ b. a == b) (senders_of plan (client_stream plan c)) ≡ o →
    IsKept plan c most (client_packet (elim o [ None ↦ None | Some r ↦ Some (0, r) ]) packet y)) [
      | None ↦ λ e. start
      | Some r ↦ λ e. packet-kept plan c most a r packet y e fits start
    ]) refl

pub client_delivered-good : (plan : Plan) (c most a : ℕ) (packet : Packet) (x : ClientState) → IsTruePacket plan (role_of plan a) packet → carries_fitting plan (role_of plan a) packet ≡ true →
    IsGoodClient plan c most x → IsGoodClient plan c most (client_after_packet plan c a packet x)
client_delivered-good plan c most a packet x truth fits g =
    let k = delivered-kept plan c most a packet x fits (record { folded = g.safe.folded; sound = g.sound }) in
    let y = client_after_packet plan c a packet x in
    record {
      safe = record { holds = client_delivered-holds plan c a packet x truth g.safe.holds; folded = k.folded; done = took-done y.taken (record { after = reader_of y; taken = y.taken }) k.folded };
      sound = k.sound;
    }

-- ---- a tick

-- a client reads a stream that is sent
pub record IsReading (plan : Plan) (c : ℕ) : Type 0 where
  pub reads : slice_get (inputs_of plan (IsClient c)) 0 ≡ Some (client_stream plan c)
  pub sent : has_senders plan (client_stream plan c) ≡ true

pub client_ticked-mails : (plan : Plan) (a c most now : ℕ) (x : ClientState) → role_of plan a ≡ IsClient c → IsReading plan c → is_port_sound plan (client_stream plan c) 1 most x.port ≡ true →
    AreMails plan a ⊥ (client_tick_step plan c now x).sends
unfolding client_tick_step
client_ticked-mails plan a c most now x role reading sound =
    let s = client_stream plan c in
    let port = port_after_tick (without_ended_marks x.port) in
    let at : Reads plan (IsClient c) (s ∷ []) = λ i u e. by-place i u e in
    mails-append plan a ⊥ (mails (subscriptions plan (port ∷ []) (s ∷ []))) (mails (acks_to plan 1 (length x.port.inlet.held.stable) s))
    (subscribed-mails plan a (IsClient c) 1 most (s ∷ []) (port ∷ [])
    (λ asked to way. record { truth = rw role tt; fits = rw role (both-of (reads_from plan (IsClient c) (role_of plan to)) true way refl); surely = λ e. cc }) at
    (both-of (is_port_sound plan s 1 most port) true (ticked-sound plan s 1 most (without_ended_marks x.port) (marked-sound plan s 1 most x.port sound)) refl))
    (acked-mails plan a (IsClient c) 1 (length x.port.inlet.held.stable) s
    (λ to way. record { truth = rw role tt; fits = rw role (both-of (reads_from plan (IsClient c) (role_of plan to)) true way refl); surely = λ e. cc }) (at 0 s refl))
  where
    by-place : (i : ℕ) (u : StreamRef) → slice_get (client_stream plan c ∷ []) i ≡ Some u → list_all (λ b. reads_from plan (IsClient c) (role_of plan b)) (senders_of plan u) ≡ true
    by-place zero u e = senders-read plan (IsClient c) 0 u (reading.reads ∙ e)
    by-place (suc i) u e = cc

pub client_ticked-good : (plan : Plan) (c most now : ℕ) (x : ClientState) → IsGoodClient plan c most x → IsGoodClient plan c (most + 1) (client_tick_step plan c now x).after
unfolding client_tick_step
client_ticked-good plan c most now x g =
    let s = client_stream plan c in
    let port = port_after_tick (without_ended_marks x.port) in
    let held : held_at (port_after_choice port) ≡ held_at port = chosen-held port in
    record {
      safe = record { holds = rw held g.safe.holds; folded = rw held g.safe.folded; done = g.safe.done };
      sound = chosen-sound plan s 1 most port (ticked-sound plan s 1 most (without_ended_marks x.port) (marked-sound plan s 1 most x.port g.sound));
    }

-- ---- the opening

pub new_client-good : (plan : Plan) (c most : ℕ) → IsChecked plan → IsReading plan c → 1 ≤ most → IsGoodClient plan c most (new_client plan c)
unfolding new_client
new_client-good plan c most checked reading few =
    record {
      safe = record { holds = empty-holds plan (client_stream plan c) checked; folded = refl; done = λ i f e d. cc };
      sound = (both _ true (new-sound plan 1 most (new_inlet 1) refl refl few (client_stream plan c ∷ []) (both-of (has_senders plan (client_stream plan c)) true reading.sent refl))).0;
    }
