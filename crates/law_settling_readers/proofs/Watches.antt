-- What a port knows of a replica is of no later incarnation than the replica's last one.
use Rattle.std.proofs.Common.{◌≡◌, ℕ, zero, suc, ◌+◌, ◌≤◌, true, false, cond, ◌==◌, nat_lt, List, [], ◌∷◌, ◌++◌, map, length, refl, sym, ap, subst, ◌∙◌, arith, Option, Some, None, slice_get, inl, inr}
use Rattle.dpc_lists.specs.Lists.{nth, changed, range_with_len}
use Rattle.dpc_model.specs.Reading.{stable_reader}
use Rattle.dpc_model.specs.Inlets.{new_inlet, restarted_inlet, sess_of}
use Rattle.dpc_model.specs.Replicas.{Watch}
use Rattle.dpc_model.specs.Actors.{role_of, inputs_of, senders_of}
use Rattle.dpc_model.specs.Ports.{Port, port_at, sender_at}
use Rattle.dpc_model.specs.declared.actors.Role.{Role}
use Rattle.dpc_model.specs.declared.actors.Role.TheVariants.{Source as IsSource, Node as IsNode, Client as IsClient, Nobody}
use Rattle.dpc_model.specs.declared.messages.Event.{Event}
use Rattle.dpc_model.specs.declared.messages.Beat.{Beat}
use Rattle.dpc_model.specs.declared.messages.Message.TheVariants as message
use Rattle.dpc_model.specs.declared.plans.Plan.{Plan}
use Rattle.dpc_model.specs.declared.plans.StreamRef.{StreamRef}
use Rattle.node_model.specs.Mails.{Packet, Plain, Stepped}
use Rattle.node_model.specs.Nodes.{Home, PlainNode, streams_of, new_node, restarted_node}
use Rattle.node_model.specs.NodeSteps.{packet_step, mill_step, tick_step}
use Rattle.node_model.specs.Sources.{source_emits, source_releases, source_packet_step, source_tick_step}
use Rattle.node_model.specs.Clients.{ClientState, client_stream, new_client, client_after_packet, client_tick_step}
use Rattle.world_model.specs.Worlds.{World, Envelope, Slot, home_of, node_place, slot_of, source_at, client_at, from, node_stepped, source_stepped, client_stepped, restart_slot, happens, run, new_world}
use Rattle.law_safety.specs.Plans.{IsCheckedPlan}
use Rattle.law_safety.proofs.Numbering.{home-inputs}
use Rattle.dpc_lists.proofs.Truths.{eq-of}
use Rattle.dpc_lists.proofs.Somes.{some-same}
use Rattle.law_safety.proofs.EventCases.{AreCases, by-event}
use Rattle.law_safety.proofs.Happening.{IsFine}
use Rattle.law_safety.proofs.Promises.{slot-here}
use Rattle.law_safety.proofs.Law.{run-good}
use Rattle.law_safety.proofs.Growing.{event-grows, run-plan}
use Rattle.law_granting.specs.Asking.{AreAsksInOrder, TellsSo}
use Rattle.law_granting.specs.Taken.{node_port, role_port, port_of}
use Rattle.law_granting.proofs.Keys.{nth-changed}
use Rattle.law_granting.proofs.Slots.{slot-there, advances-restart}
use Rattle.law_granting.proofs.Asked.{same-or}
use Rattle.law_granting.proofs.Moves.{get-mapped}
use Rattle.law_granting.proofs.Running.{new-slot, run-order}
use Rattle.law_readers.proofs.Running.{every-run}
use Rattle.law_settling_readers.proofs.WatchSteps.{placed_at, placed-is, AreTold, told-new, PortsTold, delivered-told, milled-told, ticked-node-told, client-took-told, client-ticked-told}

-- ---- an incarnation doesn't fall

module _ (w : World) (most : ℕ) (fine : IsFine w most) where
  abbrev Later : World → Type 0
  Later next = (b f q : ℕ) → role_of w.plan b ≡ IsNode f q → (slot_of w b).last_inc ≤ (slot_of next b).last_inc

  changed-later : (y g r : ℕ) (h : Slot → Slot) (es : List Envelope) → role_of w.plan y ≡ IsNode g r → (slot_of w y).last_inc ≤ (h (slot_of w y)).last_inc → Later (record w { nodes = changed (node_place w.plan y) h w.nodes; envelopes = es })
  changed-later y g r h es role more b f q there =
      let next = record w { nodes = changed (node_place w.plan y) h w.nodes; envelopes = es } in
      elim (same-or b y) [
        | inl same ↦
            subst (λ (z : ℕ). (slot_of w z).last_inc ≤ (slot_of next z).last_inc) (sym same)
            (subst (λ (s : Slot). (slot_of w y).last_inc ≤ s.last_inc) (sym (slot-here w most y g r h fine role)) more)
        | inr other ↦ subst (λ (s : Slot). (slot_of w b).last_inc ≤ s.last_inc) (sym (slot-there w y b g r f q h role there other)) (omega arith)
      ]

  later-cases : AreCases w (λ e next. Later next)
  later-cases =
      record {
        still = λ e b f q there. omega arith;
        wires = λ e cuts b f q there. omega arith;
        emitted = λ a s t role b f q there. omega arith;
        released = λ a s t role b f q there. omega arith;
        source_took = λ k s e here can role b f q there. omega arith;
        source_ticks = λ a s now role b f q there. omega arith;
        crashed = λ y g r role. changed-later y g r (λ (slot : Slot). record slot { node = None }) w.envelopes role (omega arith);
        restarted = λ y i g r role. changed-later y g r (restart_slot (home_of w.plan (g, r)) i) w.envelopes role (advances-restart (home_of w.plan (g, r)) i (slot_of w y)).last;
        node_took = λ k g r e n here can role up.
            let s = packet_step (home_of w.plan (g, r)) e.sender e.packet n in
            changed-later e.to g r (λ (slot : Slot). record slot { node = Some s.after }) (w.envelopes ++ map (from e.to) s.sends) role (omega arith);
        node_ticked = λ y now g r n role up clock.
            let s = tick_step (home_of w.plan (g, r)) now n in
            changed-later y g r (λ (slot : Slot). record slot { node = Some s.after }) (w.envelopes ++ map (from y) s.sends) role (omega arith);
        node_milled = λ y m g r n role up can.
            let s = mill_step (home_of w.plan (g, r)) m n in
            changed-later y g r (λ (slot : Slot). record slot { node = Some s.after }) (w.envelopes ++ map (from y) s.sends) role (omega arith);
        client_took = λ k c e here can role b f q there. omega arith;
        client_ticks = λ a c now role b f q there. omega arith;
      }

  incarnation-later : (e : Event) (b f q : ℕ) → role_of w.plan b ≡ IsNode f q → (slot_of w b).last_inc ≤ (slot_of (happens w e) b).last_inc
  incarnation-later e = by-event w (λ e next. Later next) later-cases e

-- ---- the ports of a reader

abbrev ReaderTold : (ℕ → ℕ → ℕ → Type 0) → ℕ → World → Type 0
ReaderTold L x w = (p : ℕ) (q : Port) → port_of w x p ≡ Some q → AreTold (L p) q.watches

abbrev SlotTold : (ℕ → ℕ → ℕ → Type 0) → Slot → Type 0
SlotTold L slot = (n : PlainNode) → slot.node ≡ Some n → PortsTold L n.ports

module _ (L : ℕ → ℕ → ℕ → Type 0) (x : ℕ) (w : World) where
  told-node : (f q : ℕ) → role_of w.plan x ≡ IsNode f q → SlotTold L (slot_of w x) → ReaderTold L x w
  told-node f q role told p r there = by-node (slot_of w x).node refl
    where
      port-is : (o : Option PlainNode) → (slot_of w x).node ≡ o → port_of w x p ≡ node_port p o
      port-is o up = rw (role, up) refl

      by-node : (o : Option PlainNode) → (slot_of w x).node ≡ o → AreTold (L p) r.watches
      by-node None up = let clash : ◌≡◌ {A = Option Port} None (Some r) = sym (port-is None up) ∙ there in cc
      by-node (Some n) up = told n up p r (sym (port-is (Some n) up) ∙ there)

  node-told : (f q : ℕ) → role_of w.plan x ≡ IsNode f q → ReaderTold L x w → SlotTold L (slot_of w x)
  node-told f q role h n up p r there = h p r (port-is ∙ there)
    where
      port-is : port_of w x p ≡ node_port p (Some n)
      port-is = rw (role, up) refl

  told-client : (c : ℕ) → role_of w.plan x ≡ IsClient c → AreTold (L 0) (client_at w c).port.watches → ReaderTold L x w
  told-client c role told p r there =
      (elim (p == 0) as (λ b. (p == 0) ≡ b → cond {A = Option Port} b (Some (client_at w c).port) None ≡ Some r → AreTold (L p) r.watches) [
        | false ↦ λ f g. cc
        | true ↦ λ f g. subst (λ (i : ℕ). AreTold (L i) r.watches) (sym (eq-of p 0 f)) (subst (λ (z : Port). AreTold (L 0) z.watches) (some-same (client_at w c).port r g) told)
      ]) refl (sym port-is ∙ there)
    where
      port-is : port_of w x p ≡ role_port w x p (IsClient c)
      port-is = rw role refl

  client-told : (c : ℕ) → role_of w.plan x ≡ IsClient c → ReaderTold L x w → AreTold (L 0) (client_at w c).port.watches
  client-told c role h = h 0 (client_at w c).port (rw role refl)

  -- others have no port
  told-source : (s : ℕ) → role_of w.plan x ≡ IsSource s → ReaderTold L x w
  told-source s role p r there = let clash : ◌≡◌ {A = Option Port} None (Some r) = sym (ap (λ (z : Role). role_port w x p z) role) ∙ there in cc

  told-nobody : role_of w.plan x ≡ Nobody → ReaderTold L x w
  told-nobody role p r there = let clash : ◌≡◌ {A = Option Port} None (Some r) = sym (ap (λ (z : Role). role_port w x p z) role) ∙ there in cc

restarted-told : (L : ℕ → ℕ → ℕ → Type 0) (home : Home) (i : ℕ) → ((p j : ℕ) → L p j 0) → PortsTold L (restarted_node home i).ports
unfolding restarted_node
restarted-told L home i first p q e =
    let k = get-mapped (port_at home.plan (restarted_inlet (stable_reader [] 0) (sess_of i 0))) (streams_of home) p q e in
    subst (λ (z : Port). AreTold (L p) z.watches) k.2 (told-new (L p) (senders_of home.plan k.0) (first p))

-- a slot that is restarted
restart-told : (L : ℕ → ℕ → ℕ → Type 0) (home : Home) (i : ℕ) (slot : Slot) → ((p j : ℕ) → L p j 0) → SlotTold L slot → SlotTold L (restart_slot home i slot)
restart-told L home i slot first h = by-node slot.node refl
  where
    by-node : (o : Option PlainNode) → slot.node ≡ o → SlotTold L (elim o as (λ _. Slot) [ Some n ↦ slot | None ↦ cond (nat_lt slot.last_inc i) (record { last_inc = i; node = Some (restarted_node home i) }) slot ])
    by-node (Some n) up = h
    by-node None up = elim (nat_lt slot.last_inc i) as (λ b. SlotTold L (cond {A = Slot} b (record { last_inc = i; node = Some (restarted_node home i) }) slot)) [
      | true ↦ λ n e. subst (λ (z : PlainNode). PortsTold L z.ports) (some-same (restarted_node home i) n e) (restarted-told L home i first)
      | false ↦ h
    ]

-- ---- an event

module _ (w : World) (most x : ℕ) (L : ℕ → ℕ → ℕ → Type 0) (fine : IsFine w most) (first : (p i : ℕ) → L p i 0)
    (beat : (k : ℕ) (e : Envelope) (b : Beat) (p i : ℕ) → slice_get w.envelopes k ≡ Some e → e.packet ≡ Plain (message.Beat b) → placed_at w.plan (inputs_of w.plan (role_of w.plan x)) p i ≡ e.sender → L p i b.inc)
    (h : ReaderTold L x w) where
  module _ (f q : ℕ) (role_x : role_of w.plan x ≡ IsNode f q) where
    old : SlotTold L (slot_of w x)
    old = node-told L x w f q role_x h

    still-told : (next : World) → next.plan ≡ w.plan → next.nodes ≡ w.nodes → ReaderTold L x next
    still-told next plan nodes =
        let same : slot_of next x ≡ slot_of w x = rw (plan, nodes) refl in
        told-node L x next f q (ap (λ (z : Plan). role_of z x) plan ∙ role_x) (subst (λ (s : Slot). SlotTold L s) (sym same) old)

    changed-told : (y g r : ℕ) (k : Slot → Slot) (es : List Envelope) → role_of w.plan y ≡ IsNode g r → (x ≡ y → SlotTold L (k (slot_of w x))) → ReaderTold L x (record w { nodes = changed (node_place w.plan y) k w.nodes; envelopes = es })
    changed-told y g r k es role told =
        let next = record w { nodes = changed (node_place w.plan y) k w.nodes; envelopes = es } in
        told-node L x next f q role_x (elim (same-or x y) [
          | inl same ↦
              let now : slot_of next x ≡ k (slot_of w x) = subst (λ (z : ℕ). slot_of next z ≡ k (slot_of w z)) (sym same) (slot-here w most y g r k fine role) in
              subst (λ (s : Slot). SlotTold L s) (sym now) (told same)
          | inr other ↦ subst (λ (s : Slot). SlotTold L s) (sym (slot-there w y x g r f q k role role_x other)) old
        ])

    stepped-told : (y g r : ℕ) (n : PlainNode) (s : Stepped PlainNode) → role_of w.plan y ≡ IsNode g r → (slot_of w y).node ≡ Some n → (x ≡ y → PortsTold L n.ports → PortsTold L s.after.ports) →
        ReaderTold L x (record w { nodes = changed (node_place w.plan y) (λ (slot : Slot). record slot { node = Some s.after }) w.nodes; envelopes = w.envelopes ++ map (from y) s.sends })
    stepped-told y g r n s role up step =
        changed-told y g r (λ (slot : Slot). record slot { node = Some s.after }) (w.envelopes ++ map (from y) s.sends) role
        (λ same m e. subst (λ (z : PlainNode). PortsTold L z.ports) (some-same s.after m e) (step same (old n (ap (λ (z : ℕ). (slot_of w z).node) same ∙ up))))

    node-cases : AreCases w (λ e next. ReaderTold L x next)
    node-cases =
        record {
          still = λ e. h;
          wires = λ e cuts. still-told (record w { cuts = cuts }) refl refl;
          emitted = λ a s t role. still-told (source_stepped a (source_emits w.plan s t (source_at w s)) w) refl refl;
          released = λ a s t role. still-told (source_stepped a (source_releases w.plan s t (source_at w s)) w) refl refl;
          source_took = λ k s e there can role. still-told (source_stepped e.to (source_packet_step w.plan s e.sender e.packet (source_at w s)) w) refl refl;
          source_ticks = λ a s now role. still-told (source_stepped a (source_tick_step w.plan s now (source_at w s)) w) refl refl;
          crashed = λ y g r role. changed-told y g r (λ (slot : Slot). record slot { node = None }) w.envelopes role (λ same n e. cc);
          restarted = λ y i g r role. changed-told y g r (restart_slot (home_of w.plan (g, r)) i) w.envelopes role (λ same. restart-told L (home_of w.plan (g, r)) i (slot_of w x) first old);
          node_took = λ k g r e n there can role up.
              let home = home_of w.plan (g, r) in
              stepped-told e.to g r n (packet_step home e.sender e.packet n) role up
              (λ same. delivered-told L home e.sender e.packet n (λ b p i packet at. beat k e b p i there packet
              (ap (λ (ss : List StreamRef). placed_at w.plan ss p i) (ap (λ (z : Role). inputs_of w.plan z) (ap (λ (z : ℕ). role_of w.plan z) same ∙ role) ∙ home-inputs home r) ∙ at)));
          node_ticked = λ y now g r n role up clock. stepped-told y g r n (tick_step (home_of w.plan (g, r)) now n) role up (λ same. ticked-node-told L (home_of w.plan (g, r)) now n);
          node_milled = λ y m g r n role up can. stepped-told y g r n (mill_step (home_of w.plan (g, r)) m n) role up (λ same. milled-told L (home_of w.plan (g, r)) m n);
          client_took = λ k c e there can role. still-told (record w { clients = changed c (client_after_packet w.plan c e.sender e.packet) w.clients }) refl refl;
          client_ticks = λ a c now role. still-told (client_stepped a c (client_tick_step w.plan c now (client_at w c)) w) refl refl;
        }

  module _ (c : ℕ) (role_x : role_of w.plan x ≡ IsClient c) where
    was : AreTold (L 0) (client_at w c).port.watches
    was = client-told L x w c role_x h

    kept-told : (next : World) → next.plan ≡ w.plan → next.clients ≡ w.clients → ReaderTold L x next
    kept-told next plan clients =
        let same : client_at next c ≡ client_at w c = rw (plan, clients) refl in
        told-client L x next c (ap (λ (z : Plan). role_of z x) plan ∙ role_x) (subst (λ (z : ClientState). AreTold (L 0) z.port.watches) (sym same) was)

    client-changed : (next : World) (d : ℕ) (k : ClientState → ClientState) → next.plan ≡ w.plan → next.clients ≡ changed d k w.clients → (c ≡ d → AreTold (L 0) (k (client_at w c)).port.watches) → ReaderTold L x next
    client-changed next d k plan clients told =
        let now : client_at next c ≡ nth (new_client w.plan c) (changed d k w.clients) c = rw (plan, clients) refl in
        told-client L x next c (ap (λ (z : Plan). role_of z x) plan ∙ role_x) (elim (nth-changed (new_client w.plan c) d k w.clients c) [
          | inl same ↦ subst (λ (z : ClientState). AreTold (L 0) z.port.watches) (sym (now ∙ same)) was
          | inr it ↦ subst (λ (z : ClientState). AreTold (L 0) z.port.watches) (sym (now ∙ it.1)) (told it.0)
        ])

    client-cases : AreCases w (λ e next. ReaderTold L x next)
    client-cases =
        record {
          still = λ e. h;
          wires = λ e cuts. kept-told (record w { cuts = cuts }) refl refl;
          emitted = λ a s t role. kept-told (source_stepped a (source_emits w.plan s t (source_at w s)) w) refl refl;
          released = λ a s t role. kept-told (source_stepped a (source_releases w.plan s t (source_at w s)) w) refl refl;
          source_took = λ k s e there can role. kept-told (source_stepped e.to (source_packet_step w.plan s e.sender e.packet (source_at w s)) w) refl refl;
          source_ticks = λ a s now role. kept-told (source_stepped a (source_tick_step w.plan s now (source_at w s)) w) refl refl;
          crashed = λ y g r role. kept-told (record w { nodes = changed (node_place w.plan y) (λ (slot : Slot). record slot { node = None }) w.nodes }) refl refl;
          restarted = λ y i g r role. kept-told (record w { nodes = changed (node_place w.plan y) (restart_slot (home_of w.plan (g, r)) i) w.nodes }) refl refl;
          node_took = λ k g r e n there can role up. kept-told (node_stepped e.to (packet_step (home_of w.plan (g, r)) e.sender e.packet n) w) refl refl;
          node_ticked = λ y now g r n role up clock. kept-told (node_stepped y (tick_step (home_of w.plan (g, r)) now n) w) refl refl;
          node_milled = λ y m g r n role up can. kept-told (node_stepped y (mill_step (home_of w.plan (g, r)) m n) w) refl refl;
          client_took = λ k d e there can role. client-changed (record w { clients = changed d (client_after_packet w.plan d e.sender e.packet) w.clients }) d (client_after_packet w.plan d e.sender e.packet) refl refl (λ same. took k d e there same);
          client_ticks = λ a d now role. client-changed (client_stepped a d (client_tick_step w.plan d now (client_at w d)) w) d (λ _. (client_tick_step w.plan d now (client_at w d)).after) refl refl
              (λ same. subst (λ (z : ℕ). AreTold (L 0) (client_tick_step w.plan z now (client_at w z)).after.port.watches) same (client-ticked-told (L 0) w.plan c now (client_at w c) was));
        }
      where
        took : (k d : ℕ) (e : Envelope) → slice_get w.envelopes k ≡ Some e → c ≡ d → AreTold (L 0) (client_after_packet w.plan d e.sender e.packet (client_at w c)).port.watches
        took k d e there same =
            subst (λ (z : ℕ). AreTold (L 0) (client_after_packet w.plan z e.sender e.packet (client_at w c)).port.watches) same
            (client-took-told (L 0) w.plan c e.sender e.packet (client_at w c)
            (λ b i packet at. beat k e b 0 i there packet (ap (λ (z : Role). placed_at w.plan (inputs_of w.plan z) 0 i) role_x ∙ at)) was)

  reader-told : (e : Event) → ReaderTold L x (happens w e)
  reader-told e = by-role (role_of w.plan x) refl
    where
      later : (role : Role) → role_of w.plan x ≡ role → role_of (happens w e).plan x ≡ role
      later role is = ap (λ (z : Plan). role_of z x) (event-grows w e).plan ∙ is

      by-role : (role : Role) → role_of w.plan x ≡ role → ReaderTold L x (happens w e)
      by-role (IsNode f q) is = by-event w (λ e next. ReaderTold L x next) (node-cases f q is) e
      by-role (IsClient c) is = by-event w (λ e next. ReaderTold L x next) (client-cases c is) e
      by-role (IsSource s) is = told-source L x (happens w e) s (later (IsSource s) is)
      by-role Nobody is = told-nobody L x (happens w e) (later Nobody is)

-- ---- every run

-- an incarnation is no later than the last one of the node at a place of a reader
abbrev IsBelow : Plan → ℕ → World → ℕ → ℕ → ℕ → Type 0
IsBelow plan x w p i n =
    let a = placed_at plan (inputs_of plan (role_of plan x)) p i in (f r : ℕ) → role_of plan a ≡ IsNode f r → n ≤ (slot_of w a).last_inc

step-below : (w : World) (most x : ℕ) (e : Event) → IsFine w most → AreAsksInOrder w → ReaderTold (IsBelow w.plan x w) x w → ReaderTold (IsBelow w.plan x (happens w e)) x (happens w e)
step-below w most x e fine order h =
    reader-told w most x (IsBelow w.plan x (happens w e)) fine (λ p i f r role. omega arith)
    (λ k g b p i there packet at f r role.
    let sender : role_of w.plan g.sender ≡ IsNode f r = subst (λ (z : ℕ). role_of w.plan z ≡ IsNode f r) at role in
    let told = subst (λ (z : Packet). TellsSo (slot_of w g.sender) z) packet (order.sent k f r g there sender) in
    let came = told.came in
    let more = incarnation-later w most fine e g.sender f r sender in
    subst (λ (z : ℕ). b.inc ≤ (slot_of (happens w e) z).last_inc) (sym at) (omega (arith, came, more)))
    (λ p q there i v at f r role.
    let low = h p q there i v at f r role in
    let more = incarnation-later w most fine e (placed_at w.plan (inputs_of w.plan (role_of w.plan x)) p i) f r role in omega (arith, low, more)) e

new-below : (plan : Plan) (x : ℕ) → ReaderTold (IsBelow plan x (new_world plan)) x (new_world plan)
unfolding new_world new_node new_client
new-below plan x = by-role (role_of plan x) refl
  where
    first : (p i : ℕ) → IsBelow plan x (new_world plan) p i 0
    first p i f r role = omega arith

    new-node : (home : Home) → PortsTold (IsBelow plan x (new_world plan)) (new_node home).ports
    new-node home p q e =
        let k = get-mapped (port_at home.plan (new_inlet 1)) (streams_of home) p q e in
        subst (λ (z : Port). AreTold (IsBelow plan x (new_world plan) p) z.watches) k.2 (told-new (IsBelow plan x (new_world plan) p) (senders_of home.plan k.0) (first p))

    clients : (c : ℕ) (xs : List ℕ) (i : ℕ) → AreTold (IsBelow plan x (new_world plan) 0) (nth (new_client plan c) (map (new_client plan) xs) i).port.watches
    clients c [] i = told-new (IsBelow plan x (new_world plan) 0) (senders_of plan (client_stream plan c)) (first 0)
    clients c (d ∷ xs) zero = told-new (IsBelow plan x (new_world plan) 0) (senders_of plan (client_stream plan d)) (first 0)
    clients c (d ∷ xs) (suc i) = clients c xs i

    by-role : (role : Role) → role_of plan x ≡ role → ReaderTold (IsBelow plan x (new_world plan)) x (new_world plan)
    by-role (IsNode f q) is =
        told-node (IsBelow plan x (new_world plan)) x (new_world plan) f q is
        (λ n up. subst (λ (z : PlainNode). PortsTold (IsBelow plan x (new_world plan)) z.ports) (some-same (new_node (home_of plan (f, q))) n (sym (ap (λ (s : Slot). s.node) (new-slot plan x f q is)) ∙ up)) (new-node (home_of plan (f, q))))
    by-role (IsClient c) is = told-client (IsBelow plan x (new_world plan)) x (new_world plan) c is (clients c (range_with_len 0 (length plan.clients)) c)
    by-role (IsSource s) is = told-source (IsBelow plan x (new_world plan)) x (new_world plan) s is
    by-role Nobody is = told-nobody (IsBelow plan x (new_world plan)) x (new_world plan) is

run-below : (plan : Plan) (events : List Event) (x : ℕ) → IsCheckedPlan plan → ReaderTold (IsBelow plan x (run plan events)) x (run plan events)
run-below plan events x checked =
    every-run plan (λ w. ReaderTold (IsBelow plan x w) x w) (new-below plan x)
    (λ before e h.
    let w = run plan before in
    let same = run-plan plan before in
    subst (λ (z : Plan). ReaderTold (IsBelow z x (happens w e)) x (happens w e)) same
    (step-below w (1 + length before) x e (run-good plan before checked).fine (run-order plan before checked) (subst (λ (z : Plan). ReaderTold (IsBelow z x w) x w) (sym same) h))) events

-- What a port knows of a replica is of no later incarnation than the replica's last one.
pub watches-below : (plan : Plan) (events : List Event) → IsCheckedPlan plan →
    (x p a i f r : ℕ) (q : Port) (v : Watch) → sender_at plan (inputs_of plan (role_of plan x)) a ≡ Some (p, i) → role_of plan a ≡ IsNode f r →
    port_of (run plan events) x p ≡ Some q → slice_get q.watches i ≡ Some v → v.inc ≤ (slot_of (run plan events) a).last_inc
watches-below plan events checked x p a i f r q v sender role there known =
    let at = placed-is plan (inputs_of plan (role_of plan x)) a p i sender in
    subst (λ (z : ℕ). v.inc ≤ (slot_of (run plan events) z).last_inc) at
    (run-below plan events x checked p q there i v known f r (subst (λ (z : ℕ). role_of plan z ≡ IsNode f r) (sym at) role))
