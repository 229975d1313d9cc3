use Rattle.std.proofs.Common.{[]}
use Rattle.picture_svg.specs.Lanes.{rose_place}
use Rattle.picture_text.proofs.Loops.{flat_grows}
use Rattle.picture_svg.proofs.lines.rose_places.Goals as goal

pub loop-j-preserved : goal.loop-j-preserved
loop-j-preserved c = flat_grows (rose_place c.args.step c.args.shift c.args.values.now) c.loop-j.j [] c.loop-j.places.items _ c.loop-j.invariant c.in_ok-put_rose_place.ensures
