use Rattle.journal_text.proofs.Named.{clear_names}
use Rattle.journal_text.proofs.Printed.{read_back}
use Rattle.journal_text.proofs.laws.what_is_printed_is_read_back.Goals as goal

pub returns : goal.returns
returns c = λ s events checked named small few. read_back s.plan (clear_names s checked) events named small few
