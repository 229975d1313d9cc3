use Rattle.std.proofs.Common.{[]}
use Rattle.picture_svg.specs.Lanes.{new_place}
use Rattle.picture_text.proofs.Loops.{flat_grows}
use Rattle.picture_svg.proofs.lines.new_places.Goals as goal

pub loop-j-preserved : goal.loop-j-preserved
loop-j-preserved c = flat_grows (new_place c.args.step c.args.letters.now) c.loop-j.j [] c.loop-j.places.items _ c.loop-j.invariant c.in_ok-put_new_place.ensures
