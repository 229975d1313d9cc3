use Rattle.std.proofs.Common.{◌≤◌, false, length, sym, ap, subst, ◌∙◌, IsTrue, arith}
use Rattle.fragment_mill.specs.Mills.{MillState}
use Rattle.mill_work.specs.Milling.{OrderValue}
use Rattle.node_model.specs.Nodes.{spec_of, ready}
use Rattle.node_model.specs.NodeParts.{inputs_of, outputs_of}
use Rattle.node_core.specs.Standing.{NodeValue, StandsForNode}
use Rattle.node_core.specs.Stepping.{IsSound}
use Rattle.node_core.specs.contracts.node.Node.{the_view}
use Rattle.node_core.proofs.Committed.{can-ready, fits-at, at-fits}
use Rattle.node_core.proofs.node.Node.fits.Goals as goal

pub returns-then-ready-len : goal.returns-then-ready-len
returns-then-ready-len c =
    λ home p h fit.
    let told = c.ready.ensures home p h in
    let many = c.len.ensures ∙ ap (λ (q : OrderValue MillState). length q.buckets) c.order.view_is in
    let test = c.if-ready-len.true in (λ (e : IsTrue false). cc, λ fits. let few = fits.ready in absurd (omega (arith, told, many, test, few)))

pub is_at-requires : goal.is_at-requires
is_at-requires c =
    let v = the_view c.self.inside in
    let sound = subst (λ (w : NodeValue). IsSound w) (sym c.self.view_is) c.requires in
    ((spec_of sound.0).ops, inputs_of sound.1, outputs_of sound.1, can-ready sound.0 v sound.1 sound.2 sound.3)

pub returns : goal.returns
returns c =
    λ home p old fit.
    let v = the_view c.self.inside in
    let o = c.args.order.now in
    let h : StandsForNode home v p = subst (λ (w : NodeValue). StandsForNode home w p) (sym c.self.view_is) old in
    let told = c.ready.ensures home p old in
    let many = c.len.ensures ∙ ap (λ (q : OrderValue MillState). length q.buckets) c.order.view_is in
    let test = c.if-ready-len.false in
    let few : length o.buckets ≤ ready home p = omega (arith, told, many, test) in
    let at = (c.in_ok-fits.ensures {u = tt}) (spec_of home).ops (inputs_of p) (outputs_of p) (can-ready home v p h fit) in (
      λ e. fits-at home v p o h few (at.0 e),
      λ fits. at.1 (at-fits home v p o h fits),
    )
