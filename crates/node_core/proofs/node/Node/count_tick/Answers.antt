use Rattle.std.proofs.Common.{sym, subst}
use Rattle.node_core.specs.Standing.{NodeValue, StandsForNode}
use Rattle.node_core.specs.contracts.node.Node.{the_view}
use Rattle.node_core.proofs.Ticking.{clock-stands}
use Rattle.node_core.proofs.node.Node.count_tick.Goals as goal

pub returns-clause-after : goal.returns-clause-after
returns-clause-after c =
    λ home p h fit.
    let v = the_view c.self.inside in
    let stands : StandsForNode home v p = subst (λ (w : NodeValue). StandsForNode home w p) (sym c.self.view_is) h in clock-stands home c.args.now v p c.tick.new.self stands c.tick.ensures
