-- Asking and granting are in order in every run.
use Rattle.std.proofs.Common.{◌≡◌, ℕ, ◌+◌, ◌-◌, ◌*◌, ◌≤◌, Bool, true, false, not, ◌||◌, nat_le, List, [], ◌∷◌, length, refl, sym, ap, subst, ◌∙◌, arith, Option, Some, None, unwrap_or}
use Rattle.dpc_lists.specs.Lists.{is_nil}
use Rattle.dpc_model.specs.Reading.{Reader}
use Rattle.dpc_model.specs.Due.{is_complete}
use Rattle.dpc_model.specs.Actors.{role_of, nodes_of}
use Rattle.dpc_model.specs.declared.actors.Role.TheVariants.{Node as IsNode}
use Rattle.dpc_model.specs.declared.messages.Event.{Event}
use Rattle.dpc_model.specs.declared.messages.NodeState.{NodeState}
use Rattle.dpc_model.specs.declared.messages.NodeState.TheVariants.{Stable, UpFailure, Stabilization}
use Rattle.dpc_model.specs.declared.plans.Plan.{Plan}
use Rattle.dpc_model.specs.NodeStates.{is_up_failure, is_stabilization}
use Rattle.node_model.specs.Nodes.{Home, PlainNode, spec_of, held_by, complete_upto, ready, wants_to_reconcile, new_node}
use Rattle.world_model.specs.Worlds.{World, Slot, home_of, node_place, slot_of, happens, run_from, run, new_world}
use Rattle.world_model.specs.Safe.{EachReaches}
use Rattle.world_model.specs.Orderly.{has_state_of_closed}
use Rattle.law_safety.specs.Plans.{IsCheckedPlan, IsPlace}
use Rattle.dpc_lists.proofs.Truths.{both, both-of, le-test, not-of, or-left, or-right}
use Rattle.law_safety.proofs.Frames.{IsGood}
use Rattle.law_safety.proofs.Numbering.{node-at}
use Rattle.law_safety.proofs.Processing.{least-reached}
use Rattle.law_safety.proofs.Serving.{some-held}
use Rattle.law_safety.proofs.Worlding.{actor-at}
use Rattle.law_safety.proofs.Happening.{IsFine, happens-next, node-here}
use Rattle.law_safety.proofs.Law.{new_world-fine, run-fine}
use Rattle.law_granting.specs.Asking.{reconciles, AsksInOrder, AreAsksInOrder}
use Rattle.law_granting.proofs.AtWork.{IsAtWork, IsAsking, idle, unstable-failed}
use Rattle.law_granting.proofs.Asked.{IsInOrder, IsAskingWorld, heard-none, event-asking}
use Rattle.dpc_lists.proofs.Elements.{get-map}
use Rattle.dpc_lists.proofs.Somes.{some-same}

-- ---- one node

reaches-complete : (width k : ℕ) (rs : List Reader) → EachReaches ((k + 1) * width) rs → is_complete width rs k ≡ true
reaches-complete width k [] h = refl
reaches-complete width k (r ∷ rs) h = both-of (nat_le ((k + 1) * width) r.bound) (is_complete width rs k) (le-test ((k + 1) * width) r.bound h.0) (reaches-complete width k rs h.1)

-- a node that reconciles has nothing closed
none-closed : (n : PlainNode) → n.recovering ≡ false → has_state_of_closed n ≡ true → is_stabilization n.state ≡ true → is_nil n.closed ≡ true
none-closed n up h e = by-value (is_nil n.closed) refl
  where
    calm : (s : NodeState) → is_stabilization s ≡ true → is_up_failure s ≡ false
    calm Stable f = cc
    calm UpFailure f = cc
    calm Stabilization f = refl

    by-value : (b : Bool) → is_nil n.closed ≡ b → is_nil n.closed ≡ true
    by-value true f = f
    by-value false f = let failed : is_up_failure n.state ≡ true = rw (up, f) at h in let clash : true ≡ false = sym failed ∙ calm n.state e in cc

has-bucket : (home : Home) (most : ℕ) (n : PlainNode) → IsPlace home → IsGood home most n → IsAtWork home n → is_stabilization n.state ≡ true → 1 ≤ ready home n
unfolding ready
has-bucket home most n place g w e =
    let none = none-closed n w.up g.orderly.state e in
    let many = least-reached home.plan.width (n.cursor + 1) (held_by n) place.checked.width (some-held home n place g.safe) w.first in
    let up = w.up in
    let all : ready home n ≡ complete_upto home n - n.cursor = rw (up, none) refl in
    omega (arith, many, all)

node-order : (home : Home) (most : ℕ) (n : PlainNode) → IsPlace home → IsGood home most n → IsAsking home n → AsksInOrder home n
node-order home most n place g h =
    record {
      has_bucket = λ e. let p = parts e in has-bucket home most n place g (h.runs (h.busy p.1 p.0).asks) p.0;
      asks = λ e. let p = parts e in (h.busy p.1 p.0).asks;
      promised_nobody = λ e. let p = parts e in (h.busy p.1 p.0).promised;
      wants = λ e. let w = h.runs e in wanting w (is_stabilization n.state) refl;
      promise = λ p e. let k = h.promise p e in record { other = k.other; lower = k.lower; going_on = k.going_on };
    }
  where
    parts : reconciles n ≡ true → (is_stabilization n.state ≡ true) × (n.recovering ≡ false)
    parts e = let p = both (is_stabilization n.state) (not n.recovering) e in (p.0, not-of n.recovering p.1)

    wanting : IsAtWork home n → (b : Bool) → is_stabilization n.state ≡ b → (wants_to_reconcile home n || reconciles n) ≡ true
    wanting w true e =
        let awake : not n.recovering ≡ true = ap not w.up in
        or-right (wants_to_reconcile home n) (reconciles n) (both-of (is_stabilization n.state) (not n.recovering) e awake)
    wanting w false e =
        or-left (wants_to_reconcile home n) (reconciles n)
        (both-of (is_up_failure n.state) (is_complete home.plan.width (held_by n) n.cursor) (unstable-failed n.state w.unstable e) (reaches-complete home.plan.width n.cursor (held_by n) w.first))

-- ---- the opening

new-asking : (home : Home) → IsAsking home (new_node home)
unfolding new_node
new-asking home = idle home (new_node home) refl (λ up e. cc) (λ p e. cc)

pub new-slot : (plan : Plan) (a f r : ℕ) → role_of plan a ≡ IsNode f r → slot_of (new_world plan) a ≡ record { last_inc = 1; node = Some (new_node (home_of plan (f, r))) }
unfolding new_world
new-slot plan a f r role =
    ap (λ (o : Option Slot). unwrap_or o (record { last_inc = 0; node = None }))
    (get-map (λ (n : ℕ × ℕ). record { last_inc = 1; node = Some (new_node (home_of plan n)) }) (nodes_of plan) (node_place plan a) (f, r) (node-at plan a f r role))

new-order : (plan : Plan) (f r : ℕ) → IsInOrder (new_world plan) f r 1 (new_node (home_of plan (f, r)))
unfolding new_world new_node
new-order plan f r =
    record {
      asking = new-asking (home_of plan (f, r));
      inc = refl;
      promises = λ c q key there e. cc;
      heard = λ c q key there e. absurd (heard-none (spec_of (home_of plan (f, r))).replicas q key e);
    }

pub new_world-asking : (plan : Plan) → IsAskingWorld (new_world plan)
unfolding new_world
new_world-asking plan =
    record {
      nodes = λ a f r n role up.
          let slot = new-slot plan a f r role in
          let same = some-same (new_node (home_of plan (f, r))) n (sym (ap (λ (x : Slot). x.node) slot) ∙ up) in
          subst (λ (x : Slot). IsInOrder (new_world plan) f r x.last_inc n) (sym slot) (subst (λ (x : PlainNode). IsInOrder (new_world plan) f r 1 x) same (new-order plan f r));
      sent = λ k f r e there role. cc;
    }

-- ---- a run

pub run-asking : (w : World) (most : ℕ) (events : List Event) → IsFine w most → IsAskingWorld w → IsAskingWorld (run_from w events)
run-asking w most [] fine h = h
run-asking w most (e ∷ events) fine h = run-asking (happens w e) (most + 1) events (happens-next w most e fine).fine (event-asking w most e fine h)

world-order : (w : World) (most : ℕ) → IsFine w most → IsAskingWorld w → AreAsksInOrder w
world-order w most fine h =
    record {
      nodes = λ a f r n at. node-order (home_of w.plan (f, r)) most n (actor-at w.plan a f r fine.checked at.role).place (node-here w most a f r n fine at.role at.up) (h.nodes a f r n at.role at.up).asking;
      incarnation = λ a f r n at. (h.nodes a f r n at.role at.up).inc;
      promises = λ a b f r q n key at there e. (h.nodes a f r n at.role at.up).promises b q key there e;
      heard = λ a b f r q n key at there e. (h.nodes a f r n at.role at.up).heard b q key there e;
      sent = h.sent;
    }

pub run-order : (plan : Plan) (events : List Event) → IsCheckedPlan plan → AreAsksInOrder (run plan events)
unfolding run
run-order plan events checked =
    let fine = new_world-fine plan checked in
    world-order (run plan events) (1 + length events) (run-fine (new_world plan) 1 events fine).fine (run-asking (new_world plan) 1 events fine (new_world-asking plan))
