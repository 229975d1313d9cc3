use Rattle.std.proofs.Common.{◌≡◌, ◌+◌, map, take, Some, None, refl, sym, ap, subst, ◌∙◌}
use Rattle.std.specs.Prelude.{Ok, Err, unwrap_or}
use Rattle.dpc_lists.specs.Lists.{last_or}
use Rattle.dpc_model.specs.Columns.{kind_columns}
use Rattle.script_rules.specs.Checking.{operator_statement}
use Rattle.script_rules.specs.Reasons.{first_of_tests}
use Rattle.script_check.specs.Judging.{Judges}
use Rattle.script_check.specs.Locals.{port_columns, read_columns, against_operator}
use Rattle.script_check.specs.Behind.{JudgesFragment}
use Rattle.script_check.proofs.Operating.{AreOpsTo, ops_go_on, ops_fail, ops_end}
use Rattle.script_check.proofs.operators.Place.check_operators.Goals as goal

pub returns-in-Some : goal.returns-in-Some
returns-in-Some c n d at x =
    let plan = c.args.self.plan.now in
    let before = c.args.self.before.now in
    let columns = c.args.self.columns.now in
    let f = c.args.self.frag.now in
    let op = c.index-ops-i.result in
    let done = take c.loop-i.i c.as_slice-ops.result.now in
    let r = c.in-Some.reason in
    let some = subst (λ o. first_of_tests (against_operator plan before f done (port_columns plan before columns f) o op) ≡ Some r) c.as_slice.ensures.value (sym c.fault_of_operator.ensures ∙ c.in-Some.is) in
    subst (λ l. Judges (Err (record { line = c.loop-i.next; reason = r })) n d (map (operator_statement plan f) l)) c.as_slice-ops.ensures
    (ops_fail plan before columns f c.args.line c.as_slice-ops.result.now done c.loop-i.i c.loop-i.outs.items c.loop-i.next r op c.loop-i-test.true c.index-ops-i.is refl some c.loop-i.invariant n d at x)

pub loop-i-preserved : goal.loop-i-preserved
loop-i-preserved c =
    let plan = c.args.self.plan.now in
    let before = c.args.self.before.now in
    let columns = c.args.self.columns.now in
    let f = c.args.self.frag.now in
    let ports = port_columns plan before columns f in
    let op = c.index-ops-i.result in
    let done = take c.loop-i.i c.as_slice-ops.result.now in
    let none = subst (λ o. first_of_tests (against_operator plan before f done ports o op) ≡ None) c.as_slice.ensures.value (sym c.fault_of_operator.ensures ∙ c.in_default.is) in
    let count = c.columns_of_operator-columns.ensures ∙ ap (λ o. kind_columns op.kind (read_columns plan f done ports o op.reads)) c.as_slice-in-loop-i.ensures.value in
    subst (λ o. AreOpsTo plan before columns f c.args.line c.as_slice-ops.result.now (c.loop-i.i + 1) o c.saturating_add-next.result) (sym c.push.ensures.items)
    (ops_go_on plan before columns f c.args.line c.as_slice-ops.result.now done c.loop-i.i c.loop-i.outs.items c.loop-i.next c.saturating_add-next.result c.columns_of_operator-columns.result op c.loop-i-test.true c.index-ops-i.is refl none
    c.saturating_add-next.ensures count c.loop-i.invariant)

pub returns : goal.returns
returns c n d at x =
    let plan = c.args.self.plan.now in
    let before = c.args.self.before.now in
    let columns = c.args.self.columns.now in
    let f = c.args.self.frag.now in
    let count : unwrap_or (last_or None c.loop-i.outs.items) 0 ≡ c.last_number.result = sym (c.last_number.ensures ∙ ap (λ l. unwrap_or (last_or None l) 0) c.as_slice-2.ensures.value) in
    subst (λ m. JudgesFragment (Ok (c.loop-i.next, m)) n plan before columns f d (map (operator_statement plan f) f.ops)) count
    (subst (λ l. JudgesFragment (Ok (c.loop-i.next, unwrap_or (last_or None c.loop-i.outs.items) 0)) n plan before columns f d (map (operator_statement plan f) l)) c.as_slice-ops.ensures
    (ops_end plan before columns f c.args.line c.as_slice-ops.result.now c.loop-i.i c.loop-i.outs.items c.loop-i.next c.loop-i-test.false c.as_slice-ops.ensures c.loop-i.invariant n d at x))
