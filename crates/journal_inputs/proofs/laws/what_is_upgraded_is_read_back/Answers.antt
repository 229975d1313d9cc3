use Rattle.journal_inputs.proofs.ReadBack.{upgraded_script_is_read, upgraded_input_is_read}
use Rattle.journal_inputs.proofs.laws.what_is_upgraded_is_read_back.Goals as goal

pub returns : goal.returns
returns c = record { script = upgraded_script_is_read; journal = upgraded_input_is_read }
