use Rattle.std.proofs.Common.{codes}
use Rattle.picture_svg.specs.Shapes.{escaped, move_to, down_to}
use Rattle.picture_svg.specs.Svg.{mark_line}
use Rattle.picture_svg.proofs.Parts.{seven_parts}
use Rattle.picture_svg.proofs.axis.put_mark_line.Goals as goal

pub returns : goal.returns
unfolding mark_line
returns c =
    rw (c.in_ok-end_line.ensures.put, c.in_ok-put_first-3.ensures.put, c.in_ok-put_escaped.ensures, c.in_ok-put_first-2.ensures.put, c.in_ok-put_down.ensures, c.in_ok-put_move.ensures, c.in_ok-put_first.ensures.put)
    (seven_parts c.args.text.now.items (codes "<path class='m' d='") (move_to c.args.x 74) (down_to c.args.low) (codes "'><title>") (escaped c.args.told.now) (codes "</title></path>"))
