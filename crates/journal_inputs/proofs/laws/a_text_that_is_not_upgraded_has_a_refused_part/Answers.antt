use Rattle.journal_inputs.proofs.ByParts.{script_is_not_upgraded, journal_is_not_upgraded}
use Rattle.journal_inputs.proofs.laws.a_text_that_is_not_upgraded_has_a_refused_part.Goals as goal

pub returns : goal.returns
returns c = record { script = script_is_not_upgraded; journal = journal_is_not_upgraded }
