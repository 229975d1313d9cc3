use Rattle.journal_inputs.proofs.FramedParts.{is_framed_both}
use Rattle.journal_inputs.proofs.laws.an_input_in_frames_is_a_script_and_its_journal.Goals as goal

pub returns : goal.returns
returns c = record {
  script = λ bytes s events is. (is_framed_both bytes s events is).script;
  journal = λ bytes s events is. (is_framed_both bytes s events is).journal;
}
