use Rattle.std.proofs.Common.{◌∙◌, refl, sym}
use Rattle.script_draft.specs.Names.{names_in}
use Rattle.script_draft.proofs.Faults.{operator-tests}
use Rattle.script_draft.proofs.draft.Draft.fault_of_operator.Goals as goal

pub returns-then-misses_column : goal.returns-then-misses_column
returns-then-misses_column c kind h =
    sym (operator-tests c.args.self.now c.args.name.now (names_in c.args.inputs) kind _ _ _ _ (sym c.is_name_taken.ensures ∙ c.if-is_name_taken.false) (sym c.reads_unknown.ensures ∙ c.if-reads_unknown.false)
    (sym (c.misses_column.ensures c.args.name.now kind h) ∙ c.if-misses_column.true) refl)

pub returns-then-passes_limit : goal.returns-then-passes_limit
returns-then-passes_limit c kind h =
    sym (operator-tests c.args.self.now c.args.name.now (names_in c.args.inputs) kind _ _ _ _ (sym c.is_name_taken.ensures ∙ c.if-is_name_taken.false) (sym c.reads_unknown.ensures ∙ c.if-reads_unknown.false)
    (sym (c.misses_column.ensures c.args.name.now kind h) ∙ c.if-misses_column.false) (sym (c.passes_limit.ensures kind h) ∙ c.if-passes_limit.true))

pub returns-else-passes_limit : goal.returns-else-passes_limit
returns-else-passes_limit c kind h =
    sym (operator-tests c.args.self.now c.args.name.now (names_in c.args.inputs) kind _ _ _ _ (sym c.is_name_taken.ensures ∙ c.if-is_name_taken.false) (sym c.reads_unknown.ensures ∙ c.if-reads_unknown.false)
    (sym (c.misses_column.ensures c.args.name.now kind h) ∙ c.if-misses_column.false) (sym (c.passes_limit.ensures kind h) ∙ c.if-passes_limit.false))
