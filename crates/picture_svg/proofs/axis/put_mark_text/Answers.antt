use Rattle.std.proofs.Common.{◌≡◌, ◌==◌, ◌+◌, ◌++◌, false, length, sym, ◌∙◌, List, ℕ}
use Rattle.picture_svg.specs.Shapes.{text_at}
use Rattle.picture_svg.specs.Svg.{mark_line}
use Rattle.picture_svg.proofs.Parts.{two_parts, where_shown}
use Rattle.picture_svg.proofs.axis.put_mark_text.Goals as goal

pub returns : goal.returns
returns c =
    let old = c.args.text.now.items in
    let told = c.args.told.now in
    let some : (length told == 0) ≡ false = sym c.is_empty.ensures ∙ c.if-is_empty.false in
    let part : List ℕ = text_at (c.args.x + 2) 84 c.args.kinds.now ++ mark_line c.args.x c.args.low told in
    let put : c.put_mark_line.new.text.items ≡ old ++ part = rw (c.in_ok-put_mark_line.ensures, c.in_ok-put_text.ensures) (two_parts old _ _) in
    where_shown (length told == 0) old part c.put_mark_line.new.text.items some put
