use Rattle.std.proofs.Common.{append_assoc}
use Rattle.picture_svg.specs.Svg.{size_text}
use Rattle.picture_svg.proofs.svg.put_size.Goals as goal

pub returns : goal.returns
unfolding size_text
returns c =
    rw (
      c.in_ok-put_first-5.ensures.put,
      c.in_ok-put_decimal-4.ensures,
      c.in_ok-put_first-4.ensures.put,
      c.in_ok-put_decimal-3.ensures,
      c.in_ok-put_first-3.ensures.put,
      c.in_ok-put_decimal-2.ensures,
      c.in_ok-put_first-2.ensures.put,
      c.in_ok-put_decimal.ensures,
      c.in_ok-put_first.ensures.put,
    )
    (simp append_assoc)
