use Rattle.std.proofs.Common.{◌<◌, length, sym, subst}
use Rattle.node_core.specs.Standing.{NodeValue, StandsForNode}
use Rattle.node_core.specs.Stepping.{IsSound}
use Rattle.node_core.specs.contracts.node.Node.{the_view}
use Rattle.node_core.proofs.Announcing.{told-done}
use Rattle.node_core.proofs.Choosing.{port-inlet}
use Rattle.node_core.proofs.node.Node.done.Goals as goal

pub done-requires : goal.done-requires
done-requires c =
    record { inside = port-inlet (the_view c.self.inside) c.args.port (subst IsSound (sym c.self.view_is) c.requires.sound) (subst (λ (w : NodeValue). c.args.port < length w.links.known.upstreams) (sym c.self.view_is) c.requires.port) }

pub returns : goal.returns
returns c =
    λ home p h fit.
    let v = the_view c.self.inside in told-done home v p c.args.port c.done.result (subst (λ (w : NodeValue). StandsForNode home w p) (sym c.self.view_is) h) fit c.if-self.false c.done.ensures
