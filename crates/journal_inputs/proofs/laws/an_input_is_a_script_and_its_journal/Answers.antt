use Rattle.journal_inputs.proofs.ByParts.{is_both}
use Rattle.journal_inputs.proofs.laws.an_input_is_a_script_and_its_journal.Goals as goal

pub returns : goal.returns
returns c = record {
  script = λ text s events is. (is_both text s events is).script;
  journal = λ text s events is. (is_both text s events is).journal;
}
