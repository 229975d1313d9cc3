use Rattle.std.proofs.Common.{◌≡◌, ◌∙◌, ◌+◌, sym, subst, ap, ℕ, Option, List, true, false, nat_lt}
use Rattle.dpc_lists.specs.Lists.{last_below}
use Rattle.dpc_model.specs.Due.{is_reached}
use Rattle.dpc_model.specs.PartStands.{InletValue}
use Rattle.sunion.specs.Ports.{passing_inputs}
use Rattle.sunion.specs.Values.{SUnionValue}
use Rattle.sunion.specs.Unions.{StandsForInputs, last_due_in, later_of}
use Rattle.sunion.specs.contracts.sunion.SUnion.{the_view}
use Rattle.sunion.proofs.Known.{overdue-is, overdue_in, passed_in, due-is}
use Rattle.sunion.proofs.sunion.SUnion.due.Goals as goal

pub returns : goal.returns
returns c = λ x h.
    let v = the_view c.self.inside in
    let u = c.self.inside in
    let old = subst (λ (w : SUnionValue). StandsForInputs w x) (sym c.self.view_is) h in
    let overdue : c.overdue.result ≡ overdue_in v c.args.now =
    c.overdue.ensures x h ∙ ap (λ (w : SUnionValue). last_due_in w false c.args.now x) (sym c.self.view_is) ∙ overdue-is v x c.args.now old in
    let reached : c.last_reached-reached.result ≡ passed_in v =
    c.last_reached-reached.ensures ∙ ap (λ (is : List InletValue). last_below (is_reached (passing_inputs u.width is (u.cursor + u.closed) (nat_lt 0 u.closed))) u.buckets) c.as_slice-ports.ensures.value in
    c.later.ensures ∙ ap (λ (o : Option ℕ). later_of o c.last_reached-reached.result) overdue ∙ ap (later_of (overdue_in v c.args.now)) reached
    ∙ sym (due-is v x c.args.now old) ∙ ap (λ (w : SUnionValue). last_due_in w true c.args.now x) c.self.view_is
