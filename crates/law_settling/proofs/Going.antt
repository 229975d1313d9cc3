-- What an event of a quiet phase makes of a port that reads a source, where its node does not recover: there is one replica, which it reads.
use Rattle.std.proofs.Common.{◌≡◌, ℕ, ◌<◌, Bool, true, cond, length, refl, sym, ap, subst, ◌∙◌, arith, Some, slice_get, inl, inr}
use Rattle.dpc_lists.specs.Lists.{nth}
use Rattle.dpc_model.specs.Inlets.{take_batch, after_tally}
use Rattle.dpc_model.specs.Actors.{role_of, inputs_of, senders_of}
use Rattle.dpc_model.specs.Ports.{Port, sender_at, without_ended_marks}
use Rattle.dpc_model.specs.declared.messages.Event.{Event}
use Rattle.dpc_model.specs.declared.messages.Event.TheVariants.{Deliver, Tick}
use Rattle.dpc_model.specs.declared.messages.Message.TheVariants as message
use Rattle.dpc_model.specs.declared.plans.StreamRef.{StreamRef}
use Rattle.dpc_model.specs.declared.plans.StreamRef.TheVariants.{Source}
use Rattle.node_model.specs.Mails.{Packet, Plain, SnapFor}
use Rattle.world_model.specs.Worlds.{World, Envelope, can_come, happens}
use Rattle.dpc_lists.proofs.Truths.{eq-test}
use Rattle.dpc_lists.proofs.Somes.{some-same}
use Rattle.law_safety.proofs.Happening.{IsFine}
use Rattle.law_safety.proofs.Pointwise.{sender-of}
use Rattle.law_granting.specs.Taken.{port_of}
use Rattle.law_granting.proofs.Taking.{sent-by}
use Rattle.law_readers.proofs.Steps.{port-chosen}
use Rattle.world_model.specs.Events.{is_quiet}
use Rattle.law_settling.specs.Rests.{RestsAt}
use Rattle.law_settling.proofs.Exact.{inlet_after, PortWith}
use Rattle.law_settling.proofs.Lines.{IsReading, place-low}
use Rattle.law_settling.proofs.PortExact.{port_after}
use Rattle.law_settling.proofs.PortSteps.{To}
use Rattle.law_settling.proofs.PortGoing.{HasTicked, PortGoes, port-goes}
use Rattle.law_settling.proofs.PortNow.{took-now as port-took-now}

-- the inlet is as before, takes an envelope of its source, or ticks, and asks where it opens its session anew
pub data InletGoes (w : World) (x p s : ℕ) (e : Event) (next : World) (q r : Port) : Type 0 where
  Stays : PortWith q r q.inlet → InletGoes w x p s e next q r
  TakesIn : (j : ℕ) (f : Envelope) → e ≡ Deliver j → slice_get w.envelopes j ≡ Some f → f.to ≡ x → f.sender ≡ s → PortWith q r (inlet_after f.packet q.inlet) → InletGoes w x p s e next q r
  TicksOn : (now : ℕ) → e ≡ Tick x now → HasTicked w x (Source s) next q r → InletGoes w x p s e next q r

-- a packet of the replica that is read
read-after : (i : ℕ) (packet : Packet) (q r : Port) → q.chosen ≡ i → r ≡ port_after i packet (without_ended_marks q) → PortWith q r (inlet_after packet q.inlet)
read-after i packet q r same is = subst (λ (y : Port). PortWith q y (inlet_after packet q.inlet)) (sym is) (by-packet packet)
  where
    by-packet : (packet : Packet) → PortWith q (port_after i packet (without_ended_marks q)) (inlet_after packet q.inlet)
    by-packet (Plain (message.Batch u index items)) =
        let taken = (take_batch q.inlet u index items).after in
        subst (λ (b : Bool). PortWith q (cond b (record (without_ended_marks q) { inlet = taken }) (without_ended_marks q)) taken) (sym (eq-test q.chosen i same)) (record { inlet_is = refl; chosen = refl; ticks = refl })
    by-packet (Plain (message.Beat b)) = record { inlet_is = ap (λ (c : Bool). cond c (after_tally q.inlet b.tally) q.inlet) (eq-test i q.chosen (sym same)); chosen = refl; ticks = refl }
    by-packet (Plain (message.Truncated u base)) = record { inlet_is = refl; chosen = refl; ticks = refl }
    by-packet (Plain (message.Subscribe asked)) = record { inlet_is = refl; chosen = refl; ticks = refl }
    by-packet (Plain (message.Ack j n)) = record { inlet_is = refl; chosen = refl; ticks = refl }
    by-packet (Plain (message.Ask j n)) = record { inlet_is = refl; chosen = refl; ticks = refl }
    by-packet (Plain (message.Grant j n)) = record { inlet_is = refl; chosen = refl; ticks = refl }
    by-packet (Plain (message.SnapAsk j n)) = record { inlet_is = refl; chosen = refl; ticks = refl }
    by-packet (SnapFor j try s) = record { inlet_is = refl; chosen = refl; ticks = refl }

module _ (w : World) (most x p s k : ℕ) (fine : IsFine w most) (many : length w.clients ≡ length w.plan.clients) (line : IsReading w.plan x p s k) (calm : RestsAt w x) where
  -- it reads the first replica, the source
  pub chosen-first : (q : Port) → port_of w x p ≡ Some q → q.chosen ≡ 0
  chosen-first q there = let low = port-chosen w most x p (Source s) fine many line.port q there in let one = line.one in omega (arith, low, one)

  -- and the source alone sends
  sent-first : (a i : ℕ) → sender_at w.plan (inputs_of w.plan (role_of w.plan x)) a ≡ Some (p, i) → (i ≡ 0) × (a ≡ s)
  sent-first a i place =
      let found = sender-of w.plan (inputs_of w.plan (role_of w.plan x)) a p i place in
      let stream : found.stream ≡ Source s = some-same found.stream (Source s) (sym found.at ∙ line.port.there) in
      let low = (place-low a (senders_of w.plan found.stream) i found.place).0 in
      let low_first : i < length (senders_of w.plan (Source s)) = subst (λ (u : StreamRef). i < length (senders_of w.plan u)) stream low in
      let one = line.one in
      let first : i ≡ 0 = omega (arith, low_first, one) in
      (first, sym (sent-by w.plan (inputs_of w.plan (role_of w.plan x)) a p i (Source s) line.port.there place) ∙ ap (λ (z : ℕ). nth 0 (senders_of w.plan (Source s)) z) first ∙ line.first)

  pub inlet-goes : (e : Event) → is_quiet e ≡ true → RestsAt (happens w e) x → (q : Port) → port_of w x p ≡ Some q → To x p (happens w e) (InletGoes w x p s e (happens w e)) q
  inlet-goes e quiet calm_next q there = let k = port-goes w most x p (Source s) fine many line.port calm e quiet calm_next q there in (k.0, k.1, by-port k.0 k.2)
    where
      by-port : (r : Port) → PortGoes w x p (Source s) e (happens w e) q r → InletGoes w x p s e (happens w e) q r
      by-port r (PortGoes.Rests (inl same)) = Stays (record { inlet_is = ap (λ (y : Port). y.inlet) same; chosen = ap (λ (y : Port). y.chosen) same; ticks = ap (λ (y : Port). y.ticks) same })
      by-port r (PortGoes.Rests (inr same)) = Stays (record { inlet_is = ap (λ (y : Port). y.inlet) same; chosen = ap (λ (y : Port). y.chosen) same; ticks = ap (λ (y : Port). y.ticks) same })
      by-port r (PortGoes.TakesIn j i f is at to place after lost) = let sent = sent-first f.sender i place in TakesIn j f is at to sent.1 (read-after i f.packet q r (chosen-first q there ∙ sym sent.0) after)
      by-port r (PortGoes.TicksOn now is ticked) = TicksOn now is ticked

  -- an envelope of the source that comes is taken
  pub took-now : (j : ℕ) (f : Envelope) → slice_get w.envelopes j ≡ Some f → can_come w f ≡ true → f.to ≡ x → f.sender ≡ s → RestsAt (happens w (Deliver j)) x → (q : Port) → port_of w x p ≡ Some q →
      To x p (happens w (Deliver j)) (λ (y r : Port). PortWith y r (inlet_after f.packet y.inlet)) q
  took-now j f sent can to sender calm_next q there =
      let place = ap (λ (a : ℕ). sender_at w.plan (inputs_of w.plan (role_of w.plan x)) a) sender ∙ line.sender in
      let k = port-took-now w most x p (Source s) fine many line.port calm j 0 f sent can to place calm_next q there in
      (k.0, k.1, read-after 0 f.packet q k.0 (chosen-first q there) k.2.0)
