use Rattle.journal_inputs.proofs.FramedBack.{framed_back}
use Rattle.journal_inputs.proofs.laws.a_script_and_frames_are_an_input.Goals as goal

pub returns : goal.returns
returns c = framed_back
