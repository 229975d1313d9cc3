use Rattle.std.proofs.Common.{◌∙◌, refl, sym}
use Rattle.script_draft.proofs.Faults.{log-tests, other-count, same-count}
use Rattle.script_draft.proofs.draft.Draft.source_of_log.Goals as goal

pub returns-then-is_out_of_time-clause-fault : goal.returns-then-is_out_of_time-clause-fault
returns-then-is_out_of_time-clause-fault c t vals stands many =
    sym (log-tests c.args.self.now c.args.source.now c.in-Some.number t vals c.in-Some.spec.now _ _ _ c.in-Some.ensures.named c.in-Some.ensures.is
    (sym (c.is_out_of_time.ensures t stands) ∙ c.if-is_out_of_time.true) refl refl)

pub returns-then-count-spec-clause-fault : goal.returns-then-count-spec-clause-fault
returns-then-count-spec-clause-fault c t vals stands many =
    sym (log-tests c.args.self.now c.args.source.now c.in-Some.number t vals c.in-Some.spec.now _ _ _ c.in-Some.ensures.named c.in-Some.ensures.is
    (sym (c.is_out_of_time.ensures t stands) ∙ c.if-is_out_of_time.false) (other-count _ _ _ many c.if-count-spec.true) refl)

pub returns-then-is_full_of_entries-clause-fault : goal.returns-then-is_full_of_entries-clause-fault
returns-then-is_full_of_entries-clause-fault c t vals stands many =
    sym (log-tests c.args.self.now c.args.source.now c.in-Some.number t vals c.in-Some.spec.now _ _ _ c.in-Some.ensures.named c.in-Some.ensures.is
    (sym (c.is_out_of_time.ensures t stands) ∙ c.if-is_out_of_time.false) (same-count _ _ _ many c.if-count-spec.false) (sym c.is_full_of_entries.ensures ∙ c.if-is_full_of_entries.true))

pub returns-else-is_full_of_entries-clause-fault : goal.returns-else-is_full_of_entries-clause-fault
returns-else-is_full_of_entries-clause-fault c t vals stands many =
    sym (log-tests c.args.self.now c.args.source.now c.in-Some.number t vals c.in-Some.spec.now _ _ _ c.in-Some.ensures.named c.in-Some.ensures.is
    (sym (c.is_out_of_time.ensures t stands) ∙ c.if-is_out_of_time.false) (same-count _ _ _ many c.if-count-spec.false) (sym c.is_full_of_entries.ensures ∙ c.if-is_full_of_entries.false))
