use Rattle.picture_svg.specs.Lanes.{bar_at}
use Rattle.picture_text.proofs.Loops.{flat_grows}
use Rattle.picture_svg.proofs.lines.put_bars.Goals as goal

pub loop-j-preserved : goal.loop-j-preserved
loop-j-preserved c = flat_grows (bar_at c.args.step c.args.y c.args.letter c.args.letters.now) c.loop-j.j c.args.moves.now.items c.loop-j.moves.items _ c.loop-j.invariant c.in_ok-put_bar.ensures
