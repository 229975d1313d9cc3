-- Where every node is up each port is there; and a script that can settle has clocks that are never void.
use Rattle.std.proofs.Common.{◌≡◌, ℕ, ◌+◌, ◌-◌, ◌≤◌, Bool, true, false, cond, ◌==◌, nat_le, List, [], ◌∷◌, length, refl, sym, ap, ◌∙◌, arith, Option, Some, None, slice_get, unwrap_or}
use Rattle.std.specs.Prelude.{is_some}
use Rattle.dpc_model.specs.Streams.{IsOrdered, NoneBelow}
use Rattle.dpc_model.specs.Actors.{role_of, nodes_of, inputs_of}
use Rattle.dpc_model.specs.Ports.{Port}
use Rattle.dpc_model.specs.declared.actors.Role.{Role}
use Rattle.dpc_model.specs.declared.actors.Role.TheVariants.{Source as IsSource, Node as IsNode, Client as IsClient, Nobody}
use Rattle.dpc_model.specs.declared.plans.StreamRef.{StreamRef}
use Rattle.dpc_model.specs.declared.scripts.Phase.{Phase as PhaseSpec}
use Rattle.dpc_model.specs.declared.scripts.Script.{Script}
use Rattle.node_model.specs.Nodes.{PlainNode, streams_of}
use Rattle.world_model.specs.Worlds.{World, Slot, home_of, node_place, slot_of, client_at}
use Rattle.world_model.specs.Schedules.{quiet_limit}
use Rattle.dpc_lists.proofs.Truths.{both-of, le-test}
use Rattle.law_safety.proofs.Numbering.{node-at, all-at, home-inputs}
use Rattle.law_safety.proofs.Pointwise.{port-at}
use Rattle.law_safety.proofs.Worlding.{slots-at}
use Rattle.law_safety.proofs.Happening.{IsFine, node-here}
use Rattle.law_granting.specs.Taken.{node_port, role_port, port_of}
use Rattle.law_schedules.specs.Journals.{most_phases, are_rising, IsClocked}
use Rattle.law_readers.specs.Settling.{CanSettle}
use Rattle.law_settling.proofs.Opening.{has_node, IsAllUp}
use Rattle.law_settling.proofs.PortSteps.{client-inputs}

-- a node of the plan is up
pub node-there : (w : World) (most x f r : ℕ) → IsFine w most → IsAllUp w → role_of w.plan x ≡ IsNode f r → (n : PlainNode) × ((slot_of w x).node ≡ Some n)
node-there w most x f r fine up role =
    let found = slots-at w.plan most (node_place w.plan x) (f, r) (nodes_of w.plan) w.nodes (node-at w.plan x f r role) fine.nodes_up in
    let here : slot_of w x ≡ found.0 = ap (λ (o : Option Slot). unwrap_or o (record { last_inc = 0; node = None })) found.1 in
    let has : is_some (slot_of w x).node ≡ true = ap has_node here ∙ all-at has_node w.nodes (node_place w.plan x) found.0 up.up found.1 in
    by-node (slot_of w x).node refl has
  where
    by-node : (o : Option PlainNode) → (slot_of w x).node ≡ o → is_some (slot_of w x).node ≡ true → (n : PlainNode) × ((slot_of w x).node ≡ Some n)
    by-node None e h = let clash : false ≡ true = sym (ap (λ (o : Option PlainNode). is_some o) e) ∙ h in cc
    by-node (Some n) e h = (n, e)

-- each port of the plan is there
pub port-there : (w : World) (most x p : ℕ) (s : StreamRef) → IsFine w most → IsAllUp w → slice_get (inputs_of w.plan (role_of w.plan x)) p ≡ Some s → (q : Port) × (port_of w x p ≡ Some q)
port-there w most x p s fine up reads = by-role (role_of w.plan x) refl reads
  where
    by-role : (role : Role) → role_of w.plan x ≡ role → slice_get (inputs_of w.plan role) p ≡ Some s → (q : Port) × (role_port w x p (role_of w.plan x) ≡ Some q)
    by-role (IsSource u) is e = cc
    by-role Nobody is e = cc
    by-role (IsNode f r) is e =
        let n = node-there w most x f r fine up is in
        let good = node-here w most x f r n.0 fine is n.1 in
        let stream : slice_get (streams_of (home_of w.plan (f, r))) p ≡ Some s = ap (λ (ss : List StreamRef). slice_get ss p) (sym (home-inputs (home_of w.plan (f, r)) r)) ∙ e in
        let found = port-at w.plan n.0.grants.inc most p s (streams_of (home_of w.plan (f, r))) n.0.ports good.orderly.ports stream in
        (found.0, ap (λ (z : Role). role_port w x p z) is ∙ ap (λ (o : Option PlainNode). node_port p o) n.1 ∙ found.1)
    by-role (IsClient c) is e =
        let first = (client-inputs w.plan.clients c p s e).0 in
        let test : (p == 0) ≡ true = rw first refl in
        ((client_at w c).port, ap (λ (z : Role). role_port w x p z) is ∙ ap (λ (b : Bool). cond {A = Option Port} b (Some (client_at w c).port) None) test)

-- ---- clocks

rising-from : (low : ℕ) (specs : List PhaseSpec) → NoneBelow (λ (q : PhaseSpec). q.now) low specs → IsOrdered (λ (q : PhaseSpec). q.now) specs → are_rising low specs ≡ true
rising-from low [] none h = refl
rising-from low (q ∷ specs) none h = both-of (nat_le low q.now) (are_rising q.now specs) (le-test low q.now none.0) (rising-from q.now specs h.0 h.1)

none-below : (specs : List PhaseSpec) → NoneBelow (λ (q : PhaseSpec). q.now) 0 specs
none-below [] = tt
none-below (q ∷ specs) = (omega arith, none-below specs)

pub clocked-of : (script : Script) → CanSettle script → IsClocked script
clocked-of script can =
    let quiet = can.quiet in
    let few = most-few script in
    record { rising = rising-from 0 script.phases (none-below script.phases) can.clocks; within = omega (arith, quiet, few) }
  where
    most-few : (script : Script) → most_phases script - length script.phases ≤ quiet_limit script.plan
    most-few script = elim script.settle as (λ b. cond {A = ℕ} b (length script.phases + quiet_limit script.plan) (length script.phases) - length script.phases ≤ quiet_limit script.plan) [ true ↦ omega arith | false ↦ omega arith ]
