use Rattle.std.proofs.Common.{◌≡◌, List, Ok, refl, sym, subst, ◌∙◌}
use Rattle.dpc_model.specs.Fragments.{ideal}
use Rattle.dpc_model.specs.declared.tuples.Tuple.{Tuple}
use Rattle.audit_core.specs.Audits.{Holds, IsAudit, verdict_on}
use Rattle.audit_core.specs.Judging.{AreFound}
use Rattle.audit_core.specs.declared.judging.Judge.{Judge}
use Rattle.audit_core.specs.declared.reading.Recorded.{Recorded}
use Rattle.audit_core.proofs.Givens.{given}
use Rattle.audit_core.proofs.comparing.compare.Goals as goal

pub returns : goal.returns
returns c = λ r h.
    let plan = c.args.plan.now in
    let start = c.new-judge.result in
    let end = c.give_stream-given.new.sink in
    let old = λ (from : Judge) (begin : Unit {0}) (rows : List Tuple). (start.recorded ≡ from.recorded) × AreFound start.recorded start.next start.found rows in
    let new = λ (from : Judge) (begin : Unit {0}) (rows : List Tuple). (end.recorded ≡ from.recorded) × AreFound end.recorded end.next end.found rows in
    let rows =
    given c.give_stream-given.result old new (ideal plan c.args.stream) start tt c.give_stream-given.ensures.rows c.give_stream-given.ensures.first (refl, c.new-judge.ensures.found) in
    let holds = subst (λ (v : Recorded). Holds v r) (sym (rows.took.0 ∙ c.new-judge.ensures.recorded)) h in
    subst (λ (ts : List Tuple). IsAudit (Ok (verdict_on plan.end ts r)) c.conclude.result) (sym rows.split)
    (c.conclude.ensures r rows.gone rows.rest holds rows.took.1 (λ whole. rows.end (sym c.is_ok.ensures.value ∙ whole)))
