use Rattle.std.proofs.Common.{◌≡◌, refl}
use Rattle.journal_commands.specs.Endings.{Ending}
use Rattle.picture_commands.specs.Endings.{picture_ending}
use Rattle.borealis_top.proofs.Asked.{answered-so}
use Rattle.borealis_top.proofs.asking.PictureFormInquiry.answer.Goals as goal

pub returns : goal.returns
returns c =
    let ending = picture_ending c.args.self.now c.args.input.items in answered-so (λ (e : Ending). ending ≡ e) ending c.answer.result refl c.answer.ensures
