use Rattle.std.proofs.Common.{◌∙◌, ◌==◌, sym, subst, ap, List, ℕ}
use Rattle.dpc_lists.specs.Lists.{place_of}
use Rattle.node_model.specs.Nodes.{spec_of}
use Rattle.node_model.specs.NodeParts.{inputs_of, outputs_of}
use Rattle.node_core.specs.Standing.{NodeValue, StandsForNode}
use Rattle.node_core.proofs.Answering.{reader-is, reader-low, ack-nobody, acked}
use Rattle.node_core.proofs.node.Node.on_ack.Goals as goal

pub ack-requires : goal.ack-requires
ack-requires c =
    let h = subst (λ (v : NodeValue). StandsForNode c.requires.0 v c.requires.1) (sym c.self.view_is) c.requires.2 in
    let found = reader-is c.requires.0 _ c.requires.1 c.args.sender _ h (sym c.in-Some.is ∙ c.place_of.ensures ∙ ap (λ (rs : List ℕ). place_of (λ b. c.args.sender == b) rs) c.as_slice.ensures.value) in
    record { inside = reader-low c.requires.0 _ c.requires.1 c.args.sender c.in-Some.reader h c.requires.3 found }

pub returns-in-Some-clause-after : goal.returns-in-Some-clause-after
returns-in-Some-clause-after c = λ home p stands fit.
    let h = subst (λ (v : NodeValue). StandsForNode home v p) (sym c.self.view_is) stands in
    let found = reader-is home _ p c.args.sender _ h (sym c.in-Some.is ∙ c.place_of.ensures ∙ ap (λ (rs : List ℕ). place_of (λ b. c.args.sender == b) rs) c.as_slice.ensures.value) in
    acked home _ p c.ack.new.self c.args.sender c.in-Some.reader c.args.inc c.args.count h c.if-self.false found c.ack.ensures.fixed
    (c.ack.ensures.stands (spec_of home).ops (inputs_of p) (outputs_of p) h.path)

pub returns-in_default-clause-after : goal.returns-in_default-clause-after
returns-in_default-clause-after c = λ home p stands fit.
    let h = subst (λ (v : NodeValue). StandsForNode home v p) (sym c.self.view_is) stands in
    let found = reader-is home _ p c.args.sender _ h (sym c.in_default.is ∙ c.place_of.ensures ∙ ap (λ (rs : List ℕ). place_of (λ b. c.args.sender == b) rs) c.as_slice.ensures.value) in
    ack-nobody home c.args.self.now p c.args.sender c.args.inc c.args.count stands found
