use Rattle.std.proofs.Common.{◌≡◌, refl}
use Rattle.journal_commands.specs.Endings.{Ending}
use Rattle.pair_commands.specs.Pairs.{pair_ending}
use Rattle.borealis_top.proofs.Asked.{answered-so}
use Rattle.borealis_top.proofs.asking.PairNamesInquiry.answer.Goals as goal

pub returns : goal.returns
returns c =
    let ending = pair_ending c.args.self.now.first.now c.args.self.now.second.now c.args.input.items in
    answered-so (λ (e : Ending). ending ≡ e) ending c.answer.result refl c.answer.ensures
