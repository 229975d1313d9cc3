use Rattle.std.proofs.Common.{◌≡◌, refl}
use Rattle.journal_commands.specs.Endings.{Ending, ending_of}
use Rattle.borealis_top.proofs.Asked.{answered-so}
use Rattle.borealis_top.proofs.asking.JournalCommandInquiry.answer.Goals as goal

pub returns : goal.returns
returns c = answered-so (λ (ending : Ending). ending_of c.args.self.now c.args.input.items ≡ ending) (ending_of c.args.self.now c.args.input.items) c.answer.result refl c.answer.ensures
