use Rattle.picture_svg.specs.Svg.{tick_text}
use Rattle.picture_text.proofs.Loops.{flat_grows}
use Rattle.picture_svg.proofs.axis.put_axis.Goals as goal

pub loop-j-preserved : goal.loop-j-preserved
loop-j-preserved c = flat_grows (tick_text c.args.columns.now) c.loop-j.j c.put_text-3.new.text.items c.loop-j.text.items _ c.loop-j.invariant c.in_ok-put_tick.ensures
