use Rattle.std.proofs.Common.{rules, ◌≡◌, ◌==◌, ◌∙◌, ℕ, List, map, sym, ap, subst}
use Rattle.std.specs.Prelude.{if◌then◌else◌}
use Rattle.dpc_lists.specs.Lists.{nth}
use Rattle.dpc_model.specs.declared.messages.Message.{Message}
use Rattle.dpc_model.specs.declared.messages.NodeState.TheVariants.{UpFailure, Stabilization}
use Rattle.sunion.specs.Values.{SUnionValue}
use Rattle.node_model.specs.NodeSteps.{processing_step}
use Rattle.node_core.specs.declared.packets.Mail.{Mail}
use Rattle.node_core.specs.Standing.{NodeValue}
use Rattle.node_core.specs.Stepping.{IsSound, Steps, plain_mail}
use Rattle.node_core.specs.contracts.node.Node.{the_view}
use Rattle.node_core.proofs.Processing.{not-stabilizing, none-due, can-process-path, processed}
use Rattle.node_core.proofs.node.Node.process.Goals as goal

pub returns-in_default-clause-after : goal.returns-in_default-clause-after
returns-in_default-clause-after c =
    let v = the_view c.self.inside in
    let other : c.self.inside.state ≡ Stabilization → ⊥ = search rules in
    subst (λ (w : NodeValue). Steps processing_step w w c.new-in_default.result.items) c.self.view_is
    (subst (λ (ms : List Mail). Steps processing_step v v ms) (sym c.new-in_default.ensures.items) (none-due v c.due.result (not-stabilizing v.state other) c.due.ensures c.in_default.is))

pub process_upto-requires : goal.process_upto-requires
process_upto-requires c = can-process-path (the_view c.self.inside) c.due.result c.in-Some.last (subst IsSound (sym c.self.view_is) c.requires) c.due.ensures c.in-Some.is

pub returns-clause-after : goal.returns-clause-after
returns-clause-after c =
    let v = the_view c.self.inside in
    let other : c.self.inside.state ≡ Stabilization → ⊥ = search rules in
    let ms = c.in_ok-sends.sends.items in
    let sent : c.in_ok-mails.mails.items ≡ map (λ (m : ℕ × Message). plain_mail (nth 0 v.readers m.0) m.1) ms =
    c.in_ok-mails.ensures {u = tt} ∙ ap (λ (rs : List ℕ). map (λ (m : ℕ × Message). plain_mail (nth 0 rs m.0) m.1) ms) c.as_slice.ensures.value in
    let count : c.closed.result ≡ c.process_upto.new.self.union.union.closed = c.closed.ensures ∙ ap (λ (u : SUnionValue). u.union.closed) c.inputs.ensures in
    let new : NodeValue = record v { path = c.process_upto.new.self; state = c.state_with-self-inside.result } in
    subst (λ (w : NodeValue). Steps processing_step w new c.in_ok-mails.mails.items) c.self.view_is
    (processed v c.due.result c.in-Some.last c.process_upto.new.self c.state_with-self-inside.result ms c.in_ok-mails.mails.items (not-stabilizing v.state other) c.due.ensures c.in-Some.is
    c.in_ok-sends.ensures.fixed c.in_ok-sends.ensures.processed (c.state_with-self-inside.ensures ∙ ap (λ (k : ℕ). if k == 0 then v.state else UpFailure) count) sent)
