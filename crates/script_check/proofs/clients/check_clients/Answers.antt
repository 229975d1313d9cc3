use Rattle.std.proofs.Common.{map, sym, subst, ◌∙◌}
use Rattle.std.specs.Prelude.{Err}
use Rattle.script_rules.specs.Checking.{client_statement}
use Rattle.script_check.specs.Judging.{Judges}
use Rattle.script_check.proofs.Clienting.{clients_go_on, clients_fail, clients_end}
use Rattle.script_check.proofs.clients.check_clients.Goals as goal

pub returns-in-Some : goal.returns-in-Some
returns-in-Some c n d at b =
    let plan = c.args.plan.now in
    subst (λ l. Judges (Err (record { line = c.loop-i.next; reason = c.in-Some.reason })) n d (map (client_statement plan) l)) c.as_slice-clients.ensures
    (clients_fail plan c.args.line c.as_slice-clients.result.now c.loop-i.i c.loop-i.next c.in-Some.reason c.index-clients-i.result c.loop-i-test.true c.index-clients-i.is (sym c.fault_of_client.ensures ∙ c.in-Some.is) c.loop-i.invariant n d at b)

pub loop-i-preserved : goal.loop-i-preserved
loop-i-preserved c =
    clients_go_on c.args.plan.now c.args.line c.as_slice-clients.result.now c.loop-i.i c.loop-i.next c.saturating_add-next.result c.index-clients-i.result c.loop-i-test.true c.index-clients-i.is
    (sym c.fault_of_client.ensures ∙ c.in_default.is) c.saturating_add-next.ensures c.loop-i.invariant

pub returns : goal.returns
returns c = clients_end c.args.plan.now c.args.line c.as_slice-clients.result.now c.loop-i.i c.loop-i.next c.loop-i-test.false c.as_slice-clients.ensures c.loop-i.invariant
