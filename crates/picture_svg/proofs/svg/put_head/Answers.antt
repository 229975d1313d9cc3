use Rattle.std.proofs.Common.{append_assoc}
use Rattle.picture_svg.specs.Svg.{head_text}
use Rattle.picture_svg.proofs.svg.put_head.Goals as goal

pub returns : goal.returns
unfolding head_text
returns c =
    rw (c.in_ok-put_text.ensures, c.in_ok-put_style.ensures, c.in_ok-put_desc.ensures, c.in_ok-put_title.ensures, c.in_ok-put_first-2.ensures.put, c.in_ok-put_size.ensures, c.in_ok-put_first.ensures.put) (simp append_assoc)
