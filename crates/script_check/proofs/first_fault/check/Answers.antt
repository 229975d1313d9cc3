use Rattle.std.proofs.Common.{◌≡◌, ℕ, [], subst}
use Rattle.std.specs.Prelude.{flat_map}
use Rattle.script_rules.specs.Checking.{check, IsChecked, phase_statements}
use Rattle.script_check.specs.Judging.{told, Judges, bare, running}
use Rattle.script_check.specs.Behind.{JudgesPlan}
use Rattle.script_check.proofs.Judging.{told_exactly}
use Rattle.script_check.proofs.Wholes.{PhasesJudge, plan_fails, phases_fail, script_passes}
use Rattle.script_check.proofs.first_fault.check.Goals as goal

pub returns-in-Err-clause-err : goal.returns-in-Err-clause-err
returns-in-Err-clause-err c = plan_fails c.args.script.now c.in-Err.fault (subst (λ r. JudgesPlan r c.args.script.now.plan) c.in-Err.is c.check_plan.ensures)

pub returns-in-Ok-check_phases-clause-ok : goal.returns-in-Ok-check_phases-clause-ok
returns-in-Ok-check_phases-clause-ok c =
    let x = c.args.script.now in
    script_passes x c.in-Ok.line c.in-Ok-check_phases.field-0 c.requires (subst (λ r. JudgesPlan r x.plan) c.in-Ok.is c.check_plan.ensures) (subst (PhasesJudge x c.in-Ok.line) c.in-Ok-check_phases.is
    (subst (λ l. (n : ℕ) → c.in-Ok.line ≡ told n → IsChecked (bare x.plan) → Judges c.check_phases.result n (running x.plan [] []) (flat_map (phase_statements x.plan) l)) c.as_slice.ensures c.check_phases.ensures))

pub returns-in-Err-check_phases-clause-err : goal.returns-in-Err-check_phases-clause-err
returns-in-Err-check_phases-clause-err c =
    let x = c.args.script.now in
    phases_fail x c.in-Ok.line c.in-Err-check_phases.fault c.requires (subst (λ r. JudgesPlan r x.plan) c.in-Ok.is c.check_plan.ensures) (subst (PhasesJudge x c.in-Ok.line) c.in-Err-check_phases.is
    (subst (λ l. (n : ℕ) → c.in-Ok.line ≡ told n → IsChecked (bare x.plan) → Judges c.check_phases.result n (running x.plan [] []) (flat_map (phase_statements x.plan) l)) c.as_slice.ensures c.check_phases.ensures))

pub returns-in-Err-clause-exact : goal.returns-in-Err-clause-exact
returns-in-Err-clause-exact c = told_exactly (check c.args.script.now) c.in-Err.fault (returns-in-Err-clause-err c)

pub returns-in-Err-check_phases-clause-exact : goal.returns-in-Err-check_phases-clause-exact
returns-in-Err-check_phases-clause-exact c = told_exactly (check c.args.script.now) c.in-Err-check_phases.fault (returns-in-Err-check_phases-clause-err c)
