use Rattle.borealis_top.proofs.Paired.{replay-picture-sound}
use Rattle.borealis_top.proofs.asking.ReplayPictureInquiry.is_sound.Goals as goal

pub returns : goal.returns
returns c = replay-picture-sound c.args.self.now.form
