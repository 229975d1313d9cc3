use Rattle.std.proofs.Common.{◌≡◌, ◌+◌, ◌≤◌, ◌∙◌, subst}
use Rattle.std.specs.Prelude.{not, ◌||◌, nat_le, nat_lt}
use Rattle.dpc_lists.specs.Lists.{nth}
use Rattle.script_rules.specs.Reasons.{input_columns}
use Rattle.script_draft.specs.Names.{names_in}
use Rattle.script_draft.specs.Shapes.{HasShape}
use Rattle.script_draft.proofs.Shapes.{misses-join}
use Rattle.script_draft.proofs.draft.Draft.misses_column.Goals as goal

pub returns-in-Join : goal.returns-in-Join
returns-in-Join c name kind h =
    let inputs = input_columns c.args.self.now (names_in c.args.inputs) in
    let shape = subst (HasShape kind) c.in-Join.is h in
    let first = c.first_columns-first.ensures in
    let second = c.second_columns-second.ensures in
    let is : c.misses_of_two.result
    ≡ (not (nat_le c.in-Join.right (nth 0 inputs 1)) || (not (nat_le c.in-Join.left (nth 0 inputs 0)) || nat_lt 8 (nth 0 inputs 0 + nth 0 inputs 1))) =
    rw (← first.columns, ← second.columns) c.misses_of_two.ensures in
    is ∙ misses-join kind c.in-Join.left c.in-Join.right inputs shape (subst (λ n. n ≤ 8) first.columns first.few) (subst (λ n. n ≤ 8) second.columns second.few)
