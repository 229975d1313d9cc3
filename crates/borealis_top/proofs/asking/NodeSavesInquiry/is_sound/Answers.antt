use Rattle.borealis_top.proofs.Paired.{saves-sound}
use Rattle.borealis_top.proofs.asking.NodeSavesInquiry.is_sound.Goals as goal

pub returns : goal.returns
returns c = saves-sound
