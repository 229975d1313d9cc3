use Rattle.std.proofs.Common.{rules, tests}
use Rattle.std.specs.Prelude.{not, ◌==◌}
use Rattle.std.proofs.lemmas.Fn.{filter_same}
use Rattle.script_draft.proofs.draft.phases.remove.Goals as goal

pub returns : goal.returns
returns c = filter_same _ (λ n. not (n == c.args.number)) _ (λ x b q h. (search (rules, tests), search (rules, tests))) _ _ c.retain.ensures.filtered
