use Rattle.journal_inputs.proofs.ByParts.{is_upgrade}
use Rattle.journal_inputs.proofs.laws.an_upgraded_text_is_of_an_old_script.Goals as goal

pub returns : goal.returns
returns c = is_upgrade
