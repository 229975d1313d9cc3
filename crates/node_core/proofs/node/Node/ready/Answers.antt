use Rattle.std.proofs.Common.{sym, subst}
use Rattle.node_core.specs.Standing.{NodeValue, StandsForNode}
use Rattle.node_core.specs.contracts.node.Node.{the_view}
use Rattle.node_core.proofs.Readying.{none-ready, told-ready}
use Rattle.node_core.proofs.node.Node.ready.Goals as goal

pub returns-then-self : goal.returns-then-self
returns-then-self c =
    λ home p h. none-ready home (the_view c.self.inside) p (subst (λ (w : NodeValue). StandsForNode home w p) (sym c.self.view_is) h) c.if-self.true

pub returns : goal.returns
returns c =
    λ home p h. told-ready home (the_view c.self.inside) p c.ready.result (subst (λ (w : NodeValue). StandsForNode home w p) (sym c.self.view_is) h) c.if-self.false c.ready.ensures
