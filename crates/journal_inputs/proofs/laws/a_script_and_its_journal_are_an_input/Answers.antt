use Rattle.journal_inputs.proofs.ReadBack.{both_read}
use Rattle.journal_inputs.proofs.laws.a_script_and_its_journal_are_an_input.Goals as goal

pub returns : goal.returns
returns c = both_read
