use Rattle.law_printed_journals.proofs.FramedInputs.{framed-input}
use Rattle.law_printed_journals.proofs.PrintedInputs.{printed-input, unfinished-input, replay-whole}
use Rattle.law_printed_journals.proofs.printed_live_journals_are_read_back.Goals as goal

pub returns : goal.returns
returns c = record { whole = printed-input; unfinished = unfinished-input; framed = framed-input; ended = replay-whole }
