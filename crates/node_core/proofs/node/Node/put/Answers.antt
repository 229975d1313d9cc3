use Rattle.std.proofs.Common.{◌≡◌, ◌∙◌, ℕ, List, map, sym, ap, subst}
use Rattle.dpc_lists.specs.Lists.{nth}
use Rattle.dpc_model.specs.declared.messages.Message.{Message}
use Rattle.node_model.specs.Nodes.{spec_of}
use Rattle.node_model.specs.NodeParts.{inputs_of, outputs_of}
use Rattle.node_core.specs.Milling.{CanPutAt, corrected}
use Rattle.node_core.specs.Standing.{NodeValue}
use Rattle.node_core.specs.Stepping.{plain_mail}
use Rattle.node_core.specs.contracts.node.Node.{the_view}
use Rattle.node_core.proofs.Milled.{corrected-rest, mill-taken}
use Rattle.node_core.proofs.node.Node.put.Goals as goal

pub is_last-done-requires : goal.is_last-done-requires
is_last-done-requires c = c.requires.2.path.can.some

pub put-requires : goal.put-requires
put-requires c =
    let home = c.requires.0 in
    let p = c.requires.1 in
    let at : CanPutAt c.args.count (the_view c.self.inside) c.args.after c.args.outputs home p = subst (λ (u : NodeValue). CanPutAt c.args.count u c.args.after c.args.outputs home p) (sym c.self.view_is) c.requires.2 in
    ((spec_of home).ops, inputs_of p, outputs_of p, at.path)

pub returns-clause-after : goal.returns-clause-after
returns-clause-after c =
    λ home p h.
    let v = the_view c.self.inside in
    let done = c.is_last-done.result in
    let w : NodeValue = record v { path = c.put.new.self } in
    let ms = c.in_ok-sends.sends.items in
    let behind : c.end_corrections.new.self ≡ corrected done w = c.in_ok-end_corrections.ensures.corrected in
    let readers : c.as_slice.result.now ≡ v.readers = c.as_slice.ensures.value ∙ ap (λ (u : NodeValue). u.readers) (c.self-2.view_is ∙ behind) ∙ (corrected-rest done w).1 in
    let sent : c.in_ok-mails.mails.items ≡ map (λ (m : ℕ × Message). plain_mail (nth 0 v.readers m.0) m.1) ms =
    c.in_ok-mails.ensures {u = tt} ∙ ap (λ (rs : List ℕ). map (λ (m : ℕ × Message). plain_mail (nth 0 rs m.0) m.1) ms) readers in
    let at : CanPutAt c.args.count v c.args.after c.args.outputs home p = subst (λ (u : NodeValue). CanPutAt c.args.count u c.args.after c.args.outputs home p) (sym c.self.view_is) h in
    mill-taken home p v c.args.self.now c.end_corrections.new.self c.args.count done c.put.new.self ms c.in_ok-mails.mails.items at.path.can.some c.self.view_is behind sent c.in_ok-sends.ensures.fixed
    at.can (c.in_ok-sends.ensures.milled (spec_of home).ops (inputs_of p) (outputs_of p) at.path) (c.is_last-done.ensures home p)
