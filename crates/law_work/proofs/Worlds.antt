-- So it is in every world of a plan that is safe and orderly, and after every run.
use Rattle.std.proofs.Common.{◌≡◌, ℕ, ◌+◌, List, length, sym, ap, subst, ◌∙◌, Option, Some, None, unwrap_or}
use Rattle.std.specs.Prelude.{IfSome}
use Rattle.dpc_model.specs.Actors.{role_of, nodes_of}
use Rattle.dpc_model.specs.Parts.{ArePastBounds}
use Rattle.dpc_model.specs.declared.actors.Role.{Role}
use Rattle.dpc_model.specs.declared.actors.Role.TheVariants.{Node as IsNode}
use Rattle.dpc_model.specs.declared.messages.Event.{Event}
use Rattle.dpc_model.specs.declared.plans.Plan.{Plan}
use Rattle.node_model.specs.Nodes.{Home, PlainNode, streams_of}
use Rattle.node_model.specs.NodeParts.{inputs_of}
use Rattle.world_model.specs.Worlds.{World, Slot, home_of, node_place, slot_of, node_role, run}
use Rattle.world_model.specs.Safe.{IsSafeNode}
use Rattle.world_model.specs.Orderly.{IsOrderlyNode}
use Rattle.law_safety.specs.Plans.{IsPlace, IsCheckedPlan}
use Rattle.law_safety.specs.Keeps.{IsFineWorld}
use Rattle.law_safety.proofs.Frames.{IsGood}
use Rattle.law_safety.proofs.Law.{run-good}
use Rattle.law_safety.proofs.Numbering.{node-at}
use Rattle.law_safety.proofs.Worlding.{slots-both, slots-at, place-of}
use Rattle.law_fit.proofs.FitWorlds.{run-world}
use Rattle.law_fit.proofs.Readers.{IsPast, inlets-all, past-each}
use Rattle.law_work.specs.TrueWork.{IsSoundNode, NodesAreSound, WorkIsTrue, TrueWorkFitsByNumbers}
use Rattle.law_work.proofs.Works.{work-true, fits-by-numbers}

-- ---- a node of a world

-- the tentative tuples of an orderly node lie past the bounds
pub orderly-past : (home : Home) (most : ℕ) (p : PlainNode) → IsOrderlyNode home most p → ArePastBounds (inputs_of p)
orderly-past home most p orderly = inlets-all IsPast p.ports (past-each home.plan p.grants.inc most (streams_of home) p.ports orderly.ports)

pub good-sound : (home : Home) (most : ℕ) (p : PlainNode) → IsPlace home → IsSafeNode home p → IsOrderlyNode home most p → IsSoundNode home p
good-sound home most p place safe orderly = record { place = place; safe = safe; past = orderly-past home most p orderly }

-- a node that is up, by its place in the world
pub slot-sound : (w : World) (most a f r : ℕ) (p : PlainNode) → IsCheckedPlan w.plan → IsFineWorld w most → role_of w.plan a ≡ IsNode f r → (slot_of w a).node ≡ Some p → IsSoundNode (home_of w.plan (f, r)) p
slot-sound w most a f r p checked fine role up =
    let number = node-at w.plan a f r role in
    let found = slots-at w.plan most (node_place w.plan a) (f, r) (nodes_of w.plan) w.nodes number (slots-both w.plan most (nodes_of w.plan) w.nodes fine.safe.nodes_hold fine.orderly.nodes_up) in
    let here : slot_of w a ≡ found.0 = ap (λ (o : Option Slot). unwrap_or o (record { last_inc = 0; node = None })) found.1 in
    let plain : found.0.node ≡ Some p = sym (ap (λ (slot : Slot). slot.node) here) ∙ up in
    let good : IsGood (home_of w.plan (f, r)) most p = subst (λ (o : Option PlainNode). IfSome o (λ x. IsGood (home_of w.plan (f, r)) most x)) plain found.2 in
    good-sound (home_of w.plan (f, r)) most p (place-of w.plan (node_place w.plan a) f r checked number) good.safe good.orderly

-- ---- a world

pub world-sound : (plan : Plan) (w : World) (most : ℕ) → IsCheckedPlan plan → w.plan ≡ plan → IsFineWorld w most → NodesAreSound plan w
world-sound plan w most checked same fine = λ a f r p role up.
    subst (λ (x : Plan). IsCheckedPlan x → role_of x a ≡ IsNode f r → IsSoundNode (home_of x (f, r)) p) same
    (λ checked role. slot-sound w most a f r p checked fine role (sym (ap (λ (k : Role). node_role w a k) role) ∙ up)) checked role

pub world-work-true : (plan : Plan) (w : World) (most : ℕ) → IsCheckedPlan plan → w.plan ≡ plan → IsFineWorld w most → WorkIsTrue plan w
world-work-true plan w most checked same fine = λ f r p o role up some work.
    work-true (home_of plan (f, r)) p o (world-sound plan w most checked same fine o.node f r p role up) role some work

pub world-fits-by-numbers : (plan : Plan) (w : World) (most : ℕ) → IsCheckedPlan plan → w.plan ≡ plan → IsFineWorld w most → TrueWorkFitsByNumbers plan w
world-fits-by-numbers plan w most checked same fine = λ f r p o role up some t.
    fits-by-numbers (home_of plan (f, r)) p o (world-sound plan w most checked same fine o.node f r p role up) role some t

-- ---- a run

pub run-sound : (plan : Plan) (events : List Event) → IsCheckedPlan plan → NodesAreSound plan (run plan events)
run-sound plan events checked = world-sound plan (run plan events) (1 + length events) checked (run-good plan events checked).of_plan (run-world plan events checked)

pub run-work-true : (plan : Plan) (events : List Event) → IsCheckedPlan plan → WorkIsTrue plan (run plan events)
run-work-true plan events checked = world-work-true plan (run plan events) (1 + length events) checked (run-good plan events checked).of_plan (run-world plan events checked)

pub run-fits-by-numbers : (plan : Plan) (events : List Event) → IsCheckedPlan plan → TrueWorkFitsByNumbers plan (run plan events)
run-fits-by-numbers plan events checked = world-fits-by-numbers plan (run plan events) (1 + length events) checked (run-good plan events checked).of_plan (run-world plan events checked)
