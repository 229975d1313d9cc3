use Rattle.std.proofs.Common.{subst}
use Rattle.script_rules.specs.Drafts.{nothing_yet}
use Rattle.script_rules.specs.Checking.{header_statements}
use Rattle.script_check.specs.Judging.{Judges}
use Rattle.script_check.proofs.Wholes.{SourcesJudge, FragsJudge, ClientsJudge, sources_stop, up_to_sources, frags_stop, up_to_frags, clients_stop, begin_judged}
use Rattle.script_check.proofs.first_fault.check_plan.Goals as goal

pub returns-in-Err-check_sources : goal.returns-in-Err-check_sources
returns-in-Err-check_sources c =
    let plan = c.args.plan.now in
    sources_stop plan c.in-Ok.line c.in-Err-check_sources.fault (subst (λ r. Judges r 1 nothing_yet (header_statements plan)) c.in-Ok.is c.check_header.ensures)
    (subst (SourcesJudge plan c.in-Ok.line) c.in-Err-check_sources.is c.check_sources.ensures)

pub returns-in-Err-check_fragments : goal.returns-in-Err-check_fragments
returns-in-Err-check_fragments c =
    let plan = c.args.plan.now in
    let sources =
    up_to_sources plan c.in-Ok.line c.in-Ok-check_sources.line (subst (λ r. Judges r 1 nothing_yet (header_statements plan)) c.in-Ok.is c.check_header.ensures)
    (subst (SourcesJudge plan c.in-Ok.line) c.in-Ok-check_sources.is c.check_sources.ensures) in
    frags_stop plan c.in-Ok-check_sources.line c.in-Err-check_fragments.fault sources (subst (FragsJudge plan c.in-Ok-check_sources.line) c.in-Err-check_fragments.is c.check_fragments.ensures)

pub returns-in-Ok-check_clients : goal.returns-in-Ok-check_clients
returns-in-Ok-check_clients c =
    let plan = c.args.plan.now in
    let sources =
    up_to_sources plan c.in-Ok.line c.in-Ok-check_sources.line (subst (λ r. Judges r 1 nothing_yet (header_statements plan)) c.in-Ok.is c.check_header.ensures)
    (subst (SourcesJudge plan c.in-Ok.line) c.in-Ok-check_sources.is c.check_sources.ensures) in
    let frags = up_to_frags plan c.in-Ok-check_sources.line c.in-Ok-check_fragments.line sources (subst (FragsJudge plan c.in-Ok-check_sources.line) c.in-Ok-check_fragments.is c.check_fragments.ensures) in
    begin_judged plan c.in-Ok-check_fragments.line c.in-Ok-check_clients.line c.check_begin.result frags (subst (ClientsJudge plan c.in-Ok-check_fragments.line) c.in-Ok-check_clients.is c.check_clients.ensures) c.check_begin.ensures

pub returns-in-Err-check_clients : goal.returns-in-Err-check_clients
returns-in-Err-check_clients c =
    let plan = c.args.plan.now in
    let sources =
    up_to_sources plan c.in-Ok.line c.in-Ok-check_sources.line (subst (λ r. Judges r 1 nothing_yet (header_statements plan)) c.in-Ok.is c.check_header.ensures)
    (subst (SourcesJudge plan c.in-Ok.line) c.in-Ok-check_sources.is c.check_sources.ensures) in
    let frags = up_to_frags plan c.in-Ok-check_sources.line c.in-Ok-check_fragments.line sources (subst (FragsJudge plan c.in-Ok-check_sources.line) c.in-Ok-check_fragments.is c.check_fragments.ensures) in
    clients_stop plan c.in-Ok-check_fragments.line c.in-Err-check_clients.fault frags (subst (ClientsJudge plan c.in-Ok-check_fragments.line) c.in-Err-check_clients.is c.check_clients.ensures)
