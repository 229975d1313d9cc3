use Rattle.std.proofs.Common.{◌∙◌, ◌<◌, length, sym, subst, ap, false, true}
use Rattle.dpc_lists.specs.Lists.{nth}
use Rattle.sunion.specs.Unions.{no_value}
use Rattle.node_model.specs.Nodes.{PlainNode}
use Rattle.node_core.specs.Standing.{NodeValue, StandsForNode}
use Rattle.node_core.proofs.Delivering.{sender-is, sender-low}
use Rattle.node_core.proofs.Truncating.{truncation-left, truncation-marked, stand-as}
use Rattle.node_core.proofs.node.Node.on_truncated.Goals as goal

pub returns-in_default-clause-after : goal.returns-in_default-clause-after
returns-in_default-clause-after c = λ home p stands fit.
    let h = subst (λ (v : NodeValue). StandsForNode home v p) (sym c.self.view_is) stands in
    let found = sender-is home _ p c.args.sender _ h (sym c.in_default.is ∙ c.sender.ensures) in rw (sym found) stands

pub session-requires : goal.session-requires
session-requires c =
    let h = subst (λ (v : NodeValue). StandsForNode c.requires.0 v c.requires.1) (sym c.self.view_is) c.requires.2 in
    record { inside = (sender-low c.requires.0 _ c.requires.1 c.args.sender c.in-Some.port c.in-Some.r h c.requires.3 (sym c.sender.ensures ∙ c.in-Some.is)).inlet }

pub returns-then-ne-clause-after : goal.returns-then-ne-clause-after
returns-then-ne-clause-after c = λ home p stands fit.
    let h = subst (λ (v : NodeValue). StandsForNode home v p) (sym c.self.view_is) stands in
    let found = sender-is home _ p c.args.sender _ h (sym c.in-Some.is ∙ c.sender.ensures) in
    let low = (sender-low home _ p c.args.sender c.in-Some.port c.in-Some.r h fit (sym c.sender.ensures ∙ c.in-Some.is)).inlet in
    let inside = subst (λ (v : NodeValue). c.in-Some.port < length v.path.union.union.inlets) c.self.view_is low in
    let session = c.session.ensures ∙ ap (λ (v : NodeValue). (nth no_value v.path.union.union.inlets c.in-Some.port).state.sess) c.self.view_is in
    truncation-left home c.args.self.now p c.args.sender c.in-Some.port c.in-Some.r c.args.base c.args.sess c.session.result stands found inside session c.if-ne.ensures

pub on_truncated-requires-clause-port : goal.on_truncated-requires-clause-port
on_truncated-requires-clause-port c =
    let h = subst (λ (v : NodeValue). StandsForNode c.requires.0 v c.requires.1) (sym c.self.view_is) c.requires.2 in
    (sender-low c.requires.0 _ c.requires.1 c.args.sender c.in-Some.port c.in-Some.r h c.requires.3 (sym c.sender.ensures ∙ c.in-Some.is)).seen

pub on_truncated-requires-clause-replica : goal.on_truncated-requires-clause-replica
on_truncated-requires-clause-replica c =
    let h = subst (λ (v : NodeValue). StandsForNode c.requires.0 v c.requires.1) (sym c.self.view_is) c.requires.2 in
    (sender-low c.requires.0 _ c.requires.1 c.args.sender c.in-Some.port c.in-Some.r h c.requires.3 (sym c.sender.ensures ∙ c.in-Some.is)).replica

pub returns-in_ok-begin_recovery-clause-after : goal.returns-in_ok-begin_recovery-clause-after
returns-in_ok-begin_recovery-clause-after c = λ home p stands fit.
    let h = subst (λ (v : NodeValue). StandsForNode home v p) (sym c.self.view_is) stands in
    let found = sender-is home _ p c.args.sender _ h (sym c.in-Some.is ∙ c.sender.ensures) in
    let low = sender-low home _ p c.args.sender c.in-Some.port c.in-Some.r h fit (sym c.sender.ensures ∙ c.in-Some.is) in
    let m = truncation-marked home _ p c.on_truncated.new.self c.args.sender c.in-Some.port c.in-Some.r c.args.base c.args.sess c.session.result true h fit found low.inlet low.seen c.session.ensures
    c.if-ne.ensures c.if-on_truncated.ensures.after c.if-on_truncated.ensures.all in
    subst (λ (n : PlainNode). StandsForNode home c.begin_recovery.new.self n) (sym m.2) (c.in_ok-begin_recovery.ensures.after home _ m.0 m.1)

pub returns-else-on_truncated-clause-after : goal.returns-else-on_truncated-clause-after
returns-else-on_truncated-clause-after c = λ home p stands fit.
    let h = subst (λ (v : NodeValue). StandsForNode home v p) (sym c.self.view_is) stands in
    let found = sender-is home _ p c.args.sender _ h (sym c.in-Some.is ∙ c.sender.ensures) in
    let low = sender-low home _ p c.args.sender c.in-Some.port c.in-Some.r h fit (sym c.sender.ensures ∙ c.in-Some.is) in
    let m = truncation-marked home _ p c.on_truncated.new.self c.args.sender c.in-Some.port c.in-Some.r c.args.base c.args.sess c.session.result false h fit found low.inlet low.seen c.session.ensures
    c.if-ne.ensures c.if-on_truncated.ensures.after c.if-on_truncated.ensures.all in
    stand-as home _ _ _ m.2 m.0
