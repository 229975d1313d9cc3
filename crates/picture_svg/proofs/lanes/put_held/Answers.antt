use Rattle.picture_svg.specs.Lanes.{held_lines}
use Rattle.picture_svg.proofs.Parts.{two_parts}
use Rattle.picture_svg.proofs.lanes.put_held.Goals as goal

pub returns : goal.returns
unfolding held_lines
returns c = rw (c.in_ok-put_line_path-2.ensures, c.in_ok-put_line_path.ensures, c.most_in-most.ensures) (two_parts c.args.text.now.items _ _)
