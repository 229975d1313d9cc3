use Rattle.std.proofs.Common.{◌∙◌, sym, subst}
use Rattle.node_model.specs.Nodes.{spec_of}
use Rattle.node_model.specs.NodeParts.{inputs_of, outputs_of}
use Rattle.node_core.specs.Standing.{NodeValue, StandsForNode}
use Rattle.node_core.proofs.Delivering.{sender-low, chosen-found, beat-taken, set-same}
use Rattle.node_core.proofs.node.Node.on_beat.Goals as goal

pub heard-requires : goal.heard-requires
heard-requires c =
    let h = subst (λ (v : NodeValue). StandsForNode c.requires.0 v c.requires.1) (sym c.self.view_is) c.requires.2 in
    let found = chosen-found _ _ c.in-Some.port (sym c.in-Some.is ∙ c.on_beat.ensures.heard) in
    record { inside = (sender-low c.requires.0 _ c.requires.1 c.args.sender c.in-Some.port found.0 h c.requires.3 found.1).inlet }

pub returns-in-Some-clause-after : goal.returns-in-Some-clause-after
returns-in-Some-clause-after c = λ home p stands fit.
    let h = subst (λ (v : NodeValue). StandsForNode home v p) (sym c.self.view_is) stands in
    beat-taken home _ p c.heard.new.self c.on_beat.new.self c.args.sender c.args.beat _ h c.on_beat.ensures.after (sym c.in-Some.is ∙ c.on_beat.ensures.heard) c.heard.ensures.fixed
    (c.heard.ensures.stands (spec_of home).ops (inputs_of p) (outputs_of p) h.path)

pub returns-in_default-clause-after : goal.returns-in_default-clause-after
returns-in_default-clause-after c = λ home p stands fit.
    let h = subst (λ (v : NodeValue). StandsForNode home v p) (sym c.self.view_is) stands in
    beat-taken home _ p c.self.inside.path c.on_beat.new.self c.args.sender c.args.beat _ h c.on_beat.ensures.after (sym c.in_default.is ∙ c.on_beat.ensures.heard) (set-same c.self.inside.path) h.path
