-- The stable output of a node whose readers hold of their streams is the failure-free output.
use Rattle.std.proofs.Common.{◌≡◌, ℕ, ◌*◌, ◌<◌, ◌≤◌, List, [], ◌∷◌, ◌++◌, map, length, refl, sym, ◌∙◌, ap}
use Rattle.dpc_model.specs.Streams.{InOrder, cut}
use Rattle.dpc_model.specs.Fragments.{serial, fragment_value, ideal, ideal_upto, IsSound}
use Rattle.dpc_model.specs.Reading.{Reader}
use Rattle.dpc_model.specs.Ports.{Port, held_at}
use Rattle.dpc_model.specs.declared.tuples.Tuple.{Tuple}
use Rattle.dpc_model.specs.declared.plans.Plan.{Plan}
use Rattle.dpc_model.specs.declared.plans.StreamRef.{StreamRef}
use Rattle.dpc_model.specs.declared.plans.StreamRef.TheVariants.{Frag}
use Rattle.dpc_model.proofs.Order.{ideal_upto-InOrder}
use Rattle.dpc_model.proofs.Prefixes.{prefix-cut}
use Rattle.dpc_model.proofs.IdealCausality.{cut-cut, cut-ideal, cut-ideal_upto}
use Rattle.dpc_model.proofs.FragmentValues.{ideal-frag}
use Rattle.node_model.specs.Nodes.{Home, PlainNode, no_fragment, spec_of, streams_of, held_by, out_stable}
use Rattle.world_model.specs.Safe.{HoldsOf, EachHolds, EachReaches}

-- the whole stream is in order
pub ideal-InOrder : (plan : Plan) (s : StreamRef) → IsSound plan → InOrder (ideal plan s)
unfolding ideal
ideal-InOrder plan s sound = ideal_upto-InOrder plan s plan.end sound.logs

-- what a reader holds below its bound is the failure-free stream there
pub cut-held : (plan : Plan) (s : StreamRef) (r : Reader) (b : ℕ) → IsSound plan → HoldsOf plan s r → b ≤ r.bound → cut r.stable b ≡ ideal_upto plan s b
cut-held plan s r b sound h below =
    let rest = h.stable.0 in
    let whole = cut-ideal plan s r.bound sound.ops h.within in
    let few : length (cut (r.stable ++ rest) r.bound) ≤ length r.stable = rw (← h.stable.1, whole) h.bound in
    let upto : cut r.stable r.bound ≡ ideal_upto plan s r.bound =
    sym (prefix-cut r.bound r.stable rest (rw h.stable.1 at (ideal-InOrder plan s sound)) few) ∙ rw (← h.stable.1) whole in
    sym (cut-cut r.stable b r.bound below) ∙ ap (λ (ts : List Tuple). cut ts b) upto ∙ cut-ideal_upto plan s b r.bound sound.ops below

-- the inputs of all ports
pub inputs-held : (plan : Plan) (b : ℕ) → IsSound plan → (ss : List StreamRef) (ports : List Port) → EachHolds plan ss (map held_at ports) → EachReaches b (map held_at ports) →
    map (λ (p : Port). cut p.inlet.held.stable b) ports ≡ map (λ s. ideal_upto plan s b) ss
inputs-held plan b sound [] [] h r = refl
inputs-held plan b sound [] (p ∷ ports) h r = absurd h
inputs-held plan b sound (s ∷ ss) [] h r = absurd h
inputs-held plan b sound (s ∷ ss) (p ∷ ports) h r =
    rw (cut-held plan s p.inlet.held b sound h.0 r.0) (ap (λ (yss : List (List Tuple)). ideal_upto plan s b ∷ yss) (inputs-held plan b sound ss ports h.1 r.1))

pub out_stable-ideal : (home : Home) (n : PlainNode) → IsSound home.plan → home.frag < length home.plan.frags →
    EachHolds home.plan (streams_of home) (held_by n) → EachReaches (n.cursor * home.plan.width) (held_by n) →
    out_stable home n ≡ ideal_upto home.plan (Frag home.frag) (n.cursor * home.plan.width)
unfolding out_stable
out_stable-ideal home n sound there h r =
    ap (λ (yss : List (List Tuple)). fragment_value (spec_of home).ops (serial yss) (n.cursor * home.plan.width))
    (inputs-held home.plan (n.cursor * home.plan.width) sound (streams_of home) n.ports h r)
    ∙ sym (ideal-frag home.plan home.frag (n.cursor * home.plan.width) no_fragment there sound.inputs)
