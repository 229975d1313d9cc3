use Rattle.std.proofs.Common.{◌≡◌, ◌∙◌, true, sym, ap, subst}
use Rattle.node_model.specs.Nodes.{spec_of}
use Rattle.node_model.specs.NodeParts.{inputs_of, outputs_of}
use Rattle.node_core.specs.Standing.{NodeValue}
use Rattle.node_core.specs.Stepping.{CanAdopt}
use Rattle.node_core.specs.contracts.node.Node.{the_view}
use Rattle.node_core.proofs.Recovering.{counts-many, can-adopt-path, adopted-stands}
use Rattle.node_core.proofs.node.Node.go_on_from.Goals as goal

pub adopt-requires-clause-ports : goal.adopt-requires-clause-ports
adopt-requires-clause-ports c =
    let v = the_view c.self.inside in
    let can = subst (λ (w : NodeValue). CanAdopt w c.args.snapshot.now c.requires.can.0 c.requires.can.1 c.requires.can.2) (sym c.self.view_is) c.requires.can.3 in
    counts-many v c.requires.can.0 c.requires.can.1 c.args.snapshot.now c.requires.can.2 can

pub returns-clause-after : goal.returns-clause-after
returns-clause-after c =
    λ home p s old.
    let v = the_view c.self.inside in
    let can : CanAdopt v c.args.snapshot.now home p s = subst (λ (w : NodeValue). CanAdopt w c.args.snapshot.now home p s) (sym c.self.view_is) old in
    let recovers : v.recovering ≡ true = ap (λ (w : NodeValue). w.recovering) c.self.view_is ∙ c.requires.recovering in
    adopted-stands v home p c.args.snapshot.now s c.adopt.new.self c.forget_sessions.new.self can c.in_ok-adopt.ensures.fixed
    (c.in_ok-adopt.ensures.adopted (spec_of home).ops (inputs_of p) (outputs_of p) s (can-adopt-path v home p c.args.snapshot.now s can recovers)) c.forget_sessions.ensures
