use Rattle.std.proofs.Common.{◌≡◌, ◌-◌, length, sym, subst, arith}
use Rattle.dpc_model.specs.Parts.{Inputs}
use Rattle.node_model.specs.NodeParts.{inputs_of}
use Rattle.sunion.specs.Unions.{StandsForInputs, complete_upto_in}
use Rattle.sunion.specs.Values.{SUnionValue}
use Rattle.node_core.specs.Standing.{NodeValue, StandsForNode}
use Rattle.node_core.specs.contracts.node.Node.{the_view}
use Rattle.node_core.proofs.Ticking.{complete-told}
use Rattle.node_core.proofs.node.Node.cursor_is_complete.Goals as goal

pub returns : goal.returns
returns c =
    λ home p h.
    let v = the_view c.self.inside in
    let stands : StandsForNode home v p = subst (λ (w : NodeValue). StandsForNode home w p) (sym c.self.view_is) h in
    let count : c.ports.result ≡ length v.links.known.upstreams = c.ports.ensures in
    let told : c.ready.result ≡ complete_upto_in v.path.union.width (inputs_of p) - p.cursor =
    subst (λ (u : SUnionValue). (x : Inputs) → StandsForInputs u x → c.ready.result ≡ complete_upto_in u.width x - x.cursor) c.inputs.ensures c.ready.ensures (inputs_of p) stands.path.ports in
    complete-told home v p c.ready.result stands (omega (arith, count, c.if-ports-eq0.false)) told
