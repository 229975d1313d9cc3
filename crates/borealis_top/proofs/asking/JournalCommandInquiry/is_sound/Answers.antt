use Rattle.std.proofs.Common.{sym, ◌∙◌}
use Rattle.journal_commands.proofs.Answered.{long-ending}
use Rattle.journal_commands.proofs.Promised.{input-holds}
use Rattle.borealis_top.proofs.asking.JournalCommandInquiry.is_sound.Goals as goal

pub returns : goal.returns
returns c = record { long = λ text ending long. let is = long-ending c.args.self.now text long in (λ e. sym e ∙ is, λ e. is ∙ sym e); all = input-holds c.args.self.now }
