-- The nodes of a fine world are fit, and so are the packets that were sent to them.
use Rattle.std.proofs.Common.{◌≡◌, ℕ, ◌+◌, ◌^◌, ◌<◌, true, List, length, sym, ap, subst, ◌∙◌, Option, Some, None, unwrap_or}
use Rattle.std.specs.Prelude.{IfSome}
use Rattle.dpc_model.specs.Actors.{role_of, nodes_of}
use Rattle.dpc_model.specs.declared.actors.Role.TheVariants.{Node as IsNode}
use Rattle.dpc_model.specs.declared.messages.Event.{Event}
use Rattle.dpc_model.specs.declared.plans.Plan.{Plan}
use Rattle.node_model.specs.Nodes.{Home, PlainNode}
use Rattle.world_model.specs.Worlds.{World, Envelope, Slot, home_of, node_place, slot_of, run}
use Rattle.world_model.specs.Safe.{IsSafeNode, IsSafeWorld, IsTrueEnvelope}
use Rattle.world_model.specs.Orderly.{IsOrderlyNode, IsOrderlyWorld, packet_way, carries_fitting, is_fitting}
use Rattle.law_safety.specs.Plans.{IsChecked, IsCheckedPlan}
use Rattle.law_safety.specs.Keeps.{IsFineWorld}
use Rattle.dpc_lists.proofs.Truths.{both}
use Rattle.law_safety.proofs.Frames.{IsGood}
use Rattle.law_safety.proofs.Numbering.{node-at, all-at}
use Rattle.law_safety.proofs.Worlding.{slots-both, slots-at, actor-at, true-at}
use Rattle.law_safety.proofs.Law.{run-safe, run-orderly, run-good}
use Rattle.node_model.specs.Fitting.{IsFit, IsFitPacket}
use Rattle.law_fit.specs.Fits.{NodesAreFit, PacketsAreFit}
use Rattle.law_fit.proofs.GoodNodes.{good-fit}
use Rattle.law_fit.proofs.Packets.{packet-fits}

-- ---- one node

pub node-fit : (home : Home) (most : ℕ) (p : PlainNode) → IsChecked home.plan → home.plan.end < 2 ^ 63 → IsSafeNode home p → IsOrderlyNode home most p → IsFit home p
node-fit home most p checked low safe orderly = good-fit home most p checked low (record { safe = safe; orderly = orderly })

pub envelope-fits : (home : Home) (most : ℕ) (e : Envelope) (p : PlainNode) → IsCheckedPlan home.plan → role_of home.plan e.to ≡ IsNode home.frag home.replica → is_fitting home.plan e ≡ true → IsTrueEnvelope home.plan e →
    IsSafeNode home p → IsOrderlyNode home most p → IsFitPacket home e.sender p e.packet
envelope-fits home most e p checked role fits truth safe orderly =
    let from = role_of home.plan e.sender in
    let k = both (packet_way home.plan from (role_of home.plan e.to) e.packet) (carries_fitting home.plan from e.packet) fits in
    packet-fits home e.to most e.sender e.packet p (actor-at home.plan e.to home.frag home.replica checked role) (rw role at k.0) k.1 truth (record { safe = safe; orderly = orderly })

-- ---- a world

pub node-good : (w : World) (most a f r : ℕ) (p : PlainNode) → IsFineWorld w most → role_of w.plan a ≡ IsNode f r → (slot_of w a).node ≡ Some p → IsGood (home_of w.plan (f, r)) most p
node-good w most a f r p fine role up =
    let good = slots-both w.plan most (nodes_of w.plan) w.nodes fine.safe.nodes_hold fine.orderly.nodes_up in
    let found = slots-at w.plan most (node_place w.plan a) (f, r) (nodes_of w.plan) w.nodes (node-at w.plan a f r role) good in
    let here : slot_of w a ≡ found.0 = ap (λ (o : Option Slot). unwrap_or o (record { last_inc = 0; node = None })) found.1 in
    let there : found.0.node ≡ Some p = sym (ap (λ (slot : Slot). slot.node) here) ∙ up in
    subst (λ (o : Option PlainNode). IfSome o (λ x. IsGood (home_of w.plan (f, r)) most x)) there found.2

pub world-nodes : (w : World) (most : ℕ) → IsCheckedPlan w.plan → w.plan.end < 2 ^ 63 → IsFineWorld w most → NodesAreFit w
world-nodes w most checked low fine = λ a f r p role up. good-fit (home_of w.plan (f, r)) most p checked.checked low (node-good w most a f r p fine role up)

pub world-packets : (w : World) (most : ℕ) → IsCheckedPlan w.plan → IsFineWorld w most → PacketsAreFit w
world-packets w most checked fine =
    λ k f r e p there role up.
    let g = node-good w most e.to f r p fine role up in
    envelope-fits (home_of w.plan (f, r)) most e p checked role (all-at (is_fitting w.plan) w.envelopes k e fine.orderly.sent there) (true-at w.plan w.envelopes k e fine.safe.sent there) g.safe g.orderly

-- ---- a run

run-of-plan : (plan : Plan) (events : List Event) → IsCheckedPlan plan → (run plan events).plan ≡ plan
run-of-plan plan events checked = (run-good plan events checked).of_plan

pub run-world : (plan : Plan) (events : List Event) → IsCheckedPlan plan → IsFineWorld (run plan events) (1 + length events)
run-world plan events checked =
    let same = sym (run-of-plan plan events checked) in
    record {
      some = (run-good plan events checked).fine.some;
      safe = subst (λ (x : Plan). IsSafeWorld (run plan events) (nodes_of x)) same (run-safe plan events checked).world;
      orderly = subst (λ (x : Plan). IsOrderlyWorld (run plan events) (nodes_of x) (1 + length events)) same (run-orderly plan events checked);
    }

pub run-nodes : (plan : Plan) (events : List Event) → IsCheckedPlan plan → plan.end < 2 ^ 63 → NodesAreFit (run plan events)
run-nodes plan events checked low =
    let same = sym (run-of-plan plan events checked) in
    world-nodes (run plan events) (1 + length events) (subst IsCheckedPlan same checked) (subst (λ (x : Plan). x.end < 2 ^ 63) same low) (run-world plan events checked)

pub run-packets : (plan : Plan) (events : List Event) → IsCheckedPlan plan → PacketsAreFit (run plan events)
run-packets plan events checked =
    world-packets (run plan events) (1 + length events) (subst IsCheckedPlan (sym (run-of-plan plan events checked)) checked) (run-world plan events checked)
