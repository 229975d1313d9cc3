use Rattle.law_settling.proofs.Splitting.{live-cut}
use Rattle.law_settling.proofs.a_live_journal_has_phases.Goals as goal

pub returns : goal.returns
returns c = live-cut
