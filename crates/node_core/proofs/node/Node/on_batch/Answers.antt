use Rattle.std.proofs.Common.{◌∙◌, sym, subst}
use Rattle.dpc_model.specs.Ports.{sender_at}
use Rattle.node_model.specs.Nodes.{spec_of, streams_of}
use Rattle.node_model.specs.NodeSteps.{on_batch}
use Rattle.node_model.specs.NodeParts.{inputs_of, outputs_of}
use Rattle.node_core.specs.Standing.{NodeValue, StandsForNode}
use Rattle.node_core.proofs.Delivering.{sender-is, sender-low, batch-left, batch-taken}
use Rattle.node_core.proofs.node.Node.on_batch.Goals as goal

pub returns-in_default-clause-taken : goal.returns-in_default-clause-taken
returns-in_default-clause-taken c = λ home p can.
    let h = subst (λ (v : NodeValue). StandsForNode home v p) (sym c.self.view_is) can.stands in
    let found = sender-is home _ p c.args.sender _ h (sym c.in_default.is ∙ c.sender.ensures) in
    rw (sym found) can.stands

pub chosen-requires : goal.chosen-requires
chosen-requires c =
    let can = c.requires.2 in
    let h = subst (λ (v : NodeValue). StandsForNode c.requires.0 v c.requires.1) (sym c.self.view_is) can.stands in
    (sender-low c.requires.0 _ c.requires.1 c.args.sender c.in-Some.port c.in-Some.r h can.fit (sym c.sender.ensures ∙ c.in-Some.is)).seen

pub returns-then-chosen-r-clause-taken : goal.returns-then-chosen-r-clause-taken
returns-then-chosen-r-clause-taken c = λ home p can.
    let h = subst (λ (v : NodeValue). StandsForNode home v p) (sym c.self.view_is) can.stands in
    let found = sender-is home _ p c.args.sender _ h (sym c.in-Some.is ∙ c.sender.ensures) in
    subst (λ (v : NodeValue). StandsForNode home v (on_batch home c.args.sess c.args.index c.args.items.now (sender_at home.plan (streams_of home) c.args.sender) p)) c.self.view_is
    (batch-left home _ p c.args.sender c.in-Some.port c.in-Some.r c.args.index c.args.sess c.args.items.now h found (λ e. c.if-chosen-r.true (c.chosen.ensures ∙ e)))

pub accept-requires : goal.accept-requires
accept-requires c =
    let can = c.requires.2 in
    let h = subst (λ (v : NodeValue). StandsForNode c.requires.0 v c.requires.1) (sym c.self.view_is) can.stands in
    record { inside = (sender-low c.requires.0 _ c.requires.1 c.args.sender c.in-Some.port c.in-Some.r h can.fit (sym c.sender.ensures ∙ c.in-Some.is)).inlet }

pub returns-clause-taken : goal.returns-clause-taken
returns-clause-taken c = λ home p can.
    let h = subst (λ (v : NodeValue). StandsForNode home v p) (sym c.self.view_is) can.stands in
    let found = sender-is home _ p c.args.sender _ h (sym c.in-Some.is ∙ c.sender.ensures) in
    batch-taken home _ p c.accept.new.self c.args.sender c.in-Some.port c.in-Some.r c.args.index c.args.sess c.args.items.now _ h found (sym c.chosen.ensures ∙ c.if-chosen-r.false) can.fits
    c.in_ok-accept.ensures.fixed (c.in_ok-accept.ensures.taken (spec_of home).ops (inputs_of p) (outputs_of p) h.path)
