use Rattle.std.proofs.Common.{append_assoc}
use Rattle.picture_svg.specs.Svg.{desc_text}
use Rattle.picture_svg.proofs.svg.put_desc.Goals as goal

pub returns : goal.returns
unfolding desc_text
returns c = rw (c.in_ok-end_line.ensures.put, c.in_ok-put_first-2.ensures.put, c.in_ok-put_escaped.ensures, c.in_ok-put_first.ensures.put) (simp append_assoc)
