use Rattle.std.proofs.Common.{◌∙◌, ◌==◌, sym, subst, ap, List, ℕ, Some, None}
use Rattle.dpc_lists.specs.Lists.{place_of}
use Rattle.node_model.specs.Nodes.{spec_of}
use Rattle.node_model.specs.NodeParts.{inputs_of, outputs_of}
use Rattle.node_core.specs.Standing.{NodeValue, StandsForNode}
use Rattle.node_core.proofs.Answering.{if-ok, steps-by, reader-is, reader-low, subscribed-nobody, subscribed}
use Rattle.node_core.proofs.node.Node.on_subscribe.Goals as goal

pub returns-in_default-clause-after : goal.returns-in_default-clause-after
returns-in_default-clause-after c =
    steps-by _ _ _ _ (λ home p stands fit.
    let h = subst (λ (v : NodeValue). StandsForNode home v p) (sym c.self.view_is) stands in
    let found = reader-is home _ p c.args.sender _ h (sym c.in_default.is ∙ c.place_of.ensures ∙ ap (λ (rs : List ℕ). place_of (λ b. c.args.sender == b) rs) c.as_slice.ensures.value) in
    subscribed-nobody home c.args.self.now p c.args.sender c.args.asked _ stands found c.new-in_default.ensures.items)

pub open_session-requires : goal.open_session-requires
open_session-requires c =
    let h = subst (λ (v : NodeValue). StandsForNode c.requires.0 v c.requires.1) (sym c.self.view_is) c.requires.2 in
    let found = reader-is c.requires.0 _ c.requires.1 c.args.sender _ h (sym c.in-Some.is ∙ c.place_of.ensures ∙ ap (λ (rs : List ℕ). place_of (λ b. c.args.sender == b) rs) c.as_slice.ensures.value) in
    record { inside = reader-low c.requires.0 _ c.requires.1 c.args.sender c.in-Some.reader h c.requires.3 found }

pub returns-in_default-2-clause-after : goal.returns-in_default-2-clause-after
returns-in_default-2-clause-after c =
    steps-by _ _ _ _ (λ home p stands fit.
    let h = subst (λ (v : NodeValue). StandsForNode home v p) (sym c.self.view_is) stands in
    let found = reader-is home _ p c.args.sender _ h (sym c.in-Some.is ∙ c.place_of.ensures ∙ ap (λ (rs : List ℕ). place_of (λ b. c.args.sender == b) rs) c.as_slice.ensures.value) in
    let has = c.in_ok-answer.ensures.answered (spec_of home).ops (inputs_of p) (outputs_of p) h.path in
    subscribed home _ p c.open_session.new.self c.args.sender c.in-Some.reader c.args.asked None _ h c.if-self.false found c.in_ok-answer.ensures.fixed
    (record { answer = sym c.in_default-2.is ∙ has.answer; stands = has.stands }) c.new-in_default-2.ensures.items)

pub returns-clause-after : goal.returns-clause-after
returns-clause-after c =
    if-ok _ _ c.one.result (λ mails same. steps-by _ _ _ _ (λ home p stands fit.
    let h = subst (λ (v : NodeValue). StandsForNode home v p) (sym c.self.view_is) stands in
    let found = reader-is home _ p c.args.sender _ h (sym c.in-Some.is ∙ c.place_of.ensures ∙ ap (λ (rs : List ℕ). place_of (λ b. c.args.sender == b) rs) c.as_slice.ensures.value) in
    let has = c.in_ok-answer.ensures.answered (spec_of home).ops (inputs_of p) (outputs_of p) h.path in
    subscribed home _ p c.open_session.new.self c.args.sender c.in-Some.reader c.args.asked (Some c.in-Some-2.answer) _ h c.if-self.false found c.in_ok-answer.ensures.fixed
    (record { answer = sym c.in-Some-2.is ∙ has.answer; stands = has.stands }) same)) c.one.ensures
