use Rattle.borealis_top.proofs.Paired.{picture-sound}
use Rattle.borealis_top.proofs.asking.PictureFormInquiry.is_sound.Goals as goal

pub returns : goal.returns
returns c = picture-sound c.args.self.now
