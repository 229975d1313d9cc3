use Rattle.std.proofs.Common.{◌≡◌, refl}
use Rattle.journal_commands.specs.Endings.{Ending}
use Rattle.picture_commands.specs.Replays.{replay_picture_ending}
use Rattle.borealis_top.proofs.Asked.{answered-so}
use Rattle.borealis_top.proofs.asking.ReplayPictureInquiry.answer.Goals as goal

pub returns : goal.returns
returns c =
    let ending = replay_picture_ending c.args.self.now.form c.args.input.items in answered-so (λ (e : Ending). ending ≡ e) ending c.answer_replay.result refl c.answer_replay.ensures
