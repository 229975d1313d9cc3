use Rattle.journal_inputs.proofs.ByParts.{script_is_refused, journal_is_refused}
use Rattle.journal_inputs.proofs.laws.a_refused_input_has_a_refused_part.Goals as goal

pub returns : goal.returns
returns c = record { script = script_is_refused; journal = journal_is_refused }
