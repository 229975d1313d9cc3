use Rattle.journal_text.proofs.Named.{clear_names}
use Rattle.journal_text.proofs.Printed.{without_end}
use Rattle.journal_text.proofs.laws.a_journal_without_its_end_is_refused.Goals as goal

pub returns : goal.returns
returns c = λ s events checked named small few. without_end s.plan (clear_names s checked) events named small few
