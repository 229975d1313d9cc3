use Rattle.journal_commands.proofs.Promised.{input-holds}
use Rattle.journal_commands.proofs.laws.what_is_answered_holds.Goals as goal

pub returns : goal.returns
returns c = input-holds
