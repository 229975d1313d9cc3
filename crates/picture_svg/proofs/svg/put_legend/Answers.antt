use Rattle.std.proofs.Common.{append_assoc}
use Rattle.picture_svg.specs.Svg.{legend_text}
use Rattle.picture_svg.proofs.svg.put_legend.Goals as goal

pub returns : goal.returns
unfolding legend_text
returns c =
    rw (c.in_ok-put_text-6.ensures, c.in_ok-put_text-5.ensures, c.in_ok-put_text-4.ensures, c.in_ok-put_text-3.ensures, c.in_ok-put_text-2.ensures, c.in_ok-put_text.ensures) (simp append_assoc)
