use Rattle.picture_text.specs.Text.{legend_lines}
use Rattle.picture_text.proofs.Loops.{five_parts}
use Rattle.picture_text.proofs.text.put_legend.Goals as goal

pub returns : goal.returns
unfolding legend_lines
returns c =
    rw (c.in_ok-put_line-5.ensures, c.in_ok-put_line-4.ensures, c.in_ok-put_line-3.ensures, c.in_ok-put_line-2.ensures, c.in_ok-put_line.ensures)
    (five_parts c.args.text.now.items _ _ _ _ _)
