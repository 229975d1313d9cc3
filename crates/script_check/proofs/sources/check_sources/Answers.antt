use Rattle.std.proofs.Common.{◌≡◌, ℕ, [], refl, subst, ap, ◌∙◌, ◌-◌}
use Rattle.std.specs.Prelude.{flat_map, Err}
use Rattle.script_rules.specs.Checking.{source_statements}
use Rattle.script_check.specs.Judging.{told, Judges, declaring}
use Rattle.script_check.proofs.AllSources.{SourceJudges, sources_go_on, sources_fail}
use Rattle.script_check.proofs.sources.check_sources.Goals as goal

pub returns-in-Err : goal.returns-in-Err
returns-in-Err c =
    let s = c.index-sources-i.result in
    subst (λ l. (n : ℕ) → c.args.line ≡ told n → Judges (Err c.in-Err.fault) n (declaring c.args.plan.now [] [] []) (flat_map source_statements l)) c.as_slice-sources.ensures
    (sources_fail c.args.plan.now c.args.line c.as_slice-sources.result.now _ c.loop-i.i c.loop-i.room c.loop-i.next s c.in-Err.fault c.loop-i-test.true c.index-sources-i.is refl c.loop-i.invariant
    (subst (SourceJudges c.args.plan.now _ s c.loop-i.room c.loop-i.next) c.in-Err.is c.check_source.ensures))

pub loop-i-preserved : goal.loop-i-preserved
loop-i-preserved c =
    let s = c.index-sources-i.result in
    sources_go_on c.args.plan.now c.args.line c.as_slice-sources.result.now _ c.loop-i.i c.loop-i.room c.loop-i.next c.in-Ok.behind c.saturating_sub-room.result s c.loop-i-test.true c.index-sources-i.is refl
    (c.saturating_sub-room.ensures ∙ ap (λ n. c.loop-i.room - n) c.len.ensures) c.loop-i.invariant
    (subst (SourceJudges c.args.plan.now _ s c.loop-i.room c.loop-i.next) c.in-Ok.is c.check_source.ensures)
