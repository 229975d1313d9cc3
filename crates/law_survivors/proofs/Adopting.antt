-- A node that goes on from a snapshot holds its inputs, and each of its ports is broken.
use Rattle.std.proofs.Common.{◌≡◌, ℕ, zero, suc, ◌*◌, Bool, true, false, cond, ◌&&◌, ◌==◌, List, [], ◌∷◌, refl, sym, ap, subst, ◌∙◌, Option, Some, None, slice_get}
use Rattle.dpc_lists.specs.Lists.{nth}
use Rattle.dpc_model.specs.Ports.{Port}
use Rattle.dpc_model.specs.declared.messages.Event.TheVariants.{Deliver, Tick}
use Rattle.dpc_model.specs.declared.tuples.Tuple.{Tuple}
use Rattle.dpc_lists.proofs.Somes.{some-same}
use Rattle.dpc_lists.proofs.Truths.{both, eq-of, true-not-false}
use Rattle.node_model.specs.Mails.{Packet, Plain, SnapFor, Snap}
use Rattle.node_model.specs.Nodes.{Home, PlainNode}
use Rattle.node_model.specs.NodeSteps.{emptied_port, adopted_ports, after_adoption, with_marks_ended, packet_step}
use Rattle.node_model.specs.NodeSteps.{mill_step}
use Rattle.world_model.specs.Worlds.{World, Envelope, Slot, slot_of}
use Rattle.law_survivors.proofs.Broken.{AreBroken}
use Rattle.law_survivors.proofs.Doing.{ReplicaDoes}
use Rattle.law_survivors.proofs.Tries.{plain-stays, milled-status}

-- the ports hold what the snapshot has of them
abbrev pub HoldSnap : Snap → List Port → Type 0
HoldSnap s ports = (p : ℕ) (q : Port) → slice_get ports p ≡ Some q → q.inlet.held.stable ≡ nth [] s.inputs p

ports-hold : (b : ℕ) (tss : List (List Tuple)) (ps : List Port) (p : ℕ) (q : Port) → slice_get (adopted_ports b tss ps) p ≡ Some q → q.inlet.held.stable ≡ nth [] tss p
ports-hold b [] ps p q e = cc
ports-hold b (ts ∷ tss) [] p q e = cc
ports-hold b (ts ∷ tss) (o ∷ ps) zero q e = ap (λ (z : Port). z.inlet.held.stable) (sym (some-same (emptied_port ts b o) q e))
ports-hold b (ts ∷ tss) (o ∷ ps) (suc p) q e = ports-hold b tss ps p q e

ports-broken : (b : ℕ) (tss : List (List Tuple)) (ps : List Port) (p : ℕ) (q : Port) → slice_get (adopted_ports b tss ps) p ≡ Some q → q.inlet.broken ≡ true
ports-broken b [] ps p q e = cc
ports-broken b (ts ∷ tss) [] p q e = cc
ports-broken b (ts ∷ tss) (o ∷ ps) zero q e = ap (λ (z : Port). z.inlet.broken) (sym (some-same (emptied_port ts b o) q e))
ports-broken b (ts ∷ tss) (o ∷ ps) (suc p) q e = ports-broken b tss ps p q e

-- it went on from this snapshot, which was for its present try
pub record IsAdopted (packet : Packet) (n m : PlainNode) : Type 0 where
  pub inc : ℕ
  pub try : ℕ
  pub snap : Snap
  pub packet_is : packet ≡ SnapFor inc try snap
  pub inc_is : inc ≡ n.grants.inc
  pub try_is : try ≡ n.tries
  pub holds : HoldSnap snap m.ports
  pub broken : AreBroken m.ports

module _ (home : Home) where
  adopted-holds : (s : Snap) (n : PlainNode) → HoldSnap s (after_adoption home s n).ports
  unfolding after_adoption
  adopted-holds s n p q e = ports-hold (s.cursor * home.plan.width) s.inputs n.ports p q e

  adopted-broken : (s : Snap) (n : PlainNode) → AreBroken (after_adoption home s n).ports
  unfolding after_adoption
  adopted-broken s n p q e = ports-broken (s.cursor * home.plan.width) s.inputs n.ports p q e

  snap-adopted : (a i try : ℕ) (s : Snap) (n : PlainNode) → n.recovering ≡ true → (packet_step home a (SnapFor i try s) n).after.recovering ≡ false → IsAdopted (SnapFor i try s) n (packet_step home a (SnapFor i try s) n).after
  unfolding packet_step
  snap-adopted a i try s n recovers whole =
      let m = with_marks_ended n in
      (elim (n.recovering && i == n.grants.inc && try == n.tries) as (λ b. (n.recovering && i == n.grants.inc && try == n.tries) ≡ b → (cond {A = PlainNode} b (after_adoption home s m) m).recovering ≡ false → IsAdopted (SnapFor i try s) n (cond {A = PlainNode} b (after_adoption home s m) m)) [
        | true ↦ λ e w.
            let k = both (n.recovering && i == n.grants.inc) (try == n.tries) e in
            let j = both n.recovering (i == n.grants.inc) k.0 in
            record { inc = i; try = try; snap = s; packet_is = refl; inc_is = eq-of i n.grants.inc j.1; try_is = eq-of try n.tries k.1; holds = adopted-holds s m; broken = adopted-broken s m }
        | false ↦ λ e w. let clash : true ≡ false = sym recovers ∙ w in cc
      ]) refl whole

  -- whoever recovers and does not behind a packet
  pub adopts : (a : ℕ) (packet : Packet) (n : PlainNode) → n.recovering ≡ true → (packet_step home a packet n).after.recovering ≡ false → IsAdopted packet n (packet_step home a packet n).after
  adopts a (SnapFor i try s) n recovers whole = snap-adopted a i try s n recovers whole
  adopts a (Plain m) n recovers whole = let clash : true ≡ false = sym (plain-stays home a m n recovers) ∙ whole in cc

-- ---- a delivery

-- the envelope that a went on from
pub record WasAdopted (w : World) (a k : ℕ) (n m : PlainNode) : Type 0 where
  pub envelope : Envelope
  pub there : slice_get w.envelopes k ≡ Some envelope
  pub to : envelope.to ≡ a
  pub it : IsAdopted envelope.packet n m

pub was-adopted : (w next : World) (home : Home) (a k : ℕ) (n m : PlainNode) → (slot_of w a).node ≡ Some n → n.recovering ≡ true → (slot_of next a).node ≡ Some m → m.recovering ≡ false → ReplicaDoes w home a (Deliver k) next → WasAdopted w a k n m
was-adopted w next home a k n m up recovers now whole = by-does
  where
    still : m.recovering ≡ n.recovering → WasAdopted w a k n m
    still same = absurd (true-not-false (sym recovers ∙ sym same ∙ whole))

    number-of : (j : ℕ) → Deliver k ≡ Deliver j → j ≡ k
    number-of j e = cc

    by-does : ReplicaDoes w home a (Deliver k) next → WasAdopted w a k n m
    by-does (ReplicaDoes.Rests slot sends) = still (ap (λ (z : PlainNode). z.recovering) (some-same m n (sym now ∙ ap (λ (z : Slot). z.node) slot ∙ up)))
    by-does (ReplicaDoes.Falls crash down last sends) = let clash : ◌≡◌ {A = Option PlainNode} None (Some m) = sym down ∙ now in cc
    by-does (ReplicaDoes.Starts i newer down begun last sends) = let clash : ◌≡◌ {A = Option PlainNode} None (Some n) = sym down ∙ up in cc
    by-does (ReplicaDoes.Ticks clock v event s) = let clash : Deliver k ≡ Tick a clock = event in cc
    by-does (ReplicaDoes.Mills q v s) =
        still (ap (λ (z : PlainNode). z.recovering) (some-same m (mill_step home q v).after (sym now ∙ s.now)) ∙ ap (λ (z : ℕ × Bool). z.1) (milled-status home q v) ∙ ap (λ (z : PlainNode). z.recovering) (some-same v n (sym s.up ∙ up)))
    by-does (ReplicaDoes.Takes j e v event there can to s) =
        let before = some-same v n (sym s.up ∙ up) in
        let after = some-same (packet_step home e.sender e.packet v).after m (sym s.now ∙ now) in
        record {
          envelope = e;
          there = ap (λ (z : ℕ). slice_get w.envelopes z) (sym (number-of j event)) ∙ there;
          to = to;
          it = subst (λ (z : PlainNode). IsAdopted e.packet z m) before (subst (λ (z : PlainNode). IsAdopted e.packet v z) after
              (adopts home e.sender e.packet v (ap (λ (z : PlainNode). z.recovering) before ∙ recovers) (ap (λ (z : PlainNode). z.recovering) after ∙ whole)));
        }
