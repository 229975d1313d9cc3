use Rattle.std.proofs.Common.{[]}
use Rattle.picture_svg.specs.Lanes.{rose_letter}
use Rattle.picture_text.proofs.Loops.{flat_grows}
use Rattle.picture_svg.proofs.lines.only_rose.Goals as goal

pub loop-j-preserved : goal.loop-j-preserved
loop-j-preserved c = flat_grows (rose_letter c.args.letter c.args.values.now) c.loop-j.j [] c.loop-j.text.items _ c.loop-j.invariant c.in_ok-put_rose_letter.ensures
