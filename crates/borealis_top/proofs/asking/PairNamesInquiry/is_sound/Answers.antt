use Rattle.borealis_top.proofs.Paired.{pair-sound}
use Rattle.borealis_top.proofs.asking.PairNamesInquiry.is_sound.Goals as goal

pub returns : goal.returns
returns c = pair-sound c.args.self.now.first.now c.args.self.now.second.now
