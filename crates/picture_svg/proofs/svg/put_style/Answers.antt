use Rattle.picture_svg.specs.Svg.{style_text}
use Rattle.picture_svg.proofs.Parts.{four_parts}
use Rattle.picture_svg.proofs.svg.put_style.Goals as goal

pub returns : goal.returns
unfolding style_text
returns c =
    rw (c.in_ok-put_style_line-4.ensures, c.in_ok-put_style_line-3.ensures, c.in_ok-put_style_line-2.ensures, c.in_ok-put_style_line.ensures) (four_parts c.args.text.now.items _ _ _ _)
