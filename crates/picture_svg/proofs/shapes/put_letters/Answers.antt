use Rattle.std.proofs.Common.{◌≡◌, ◌==◌, false, length, sym, ◌∙◌}
use Rattle.picture_svg.specs.Shapes.{some_letters, letters_at}
use Rattle.picture_svg.proofs.Parts.{where_shown}
use Rattle.picture_svg.proofs.shapes.put_letters.Goals as goal

pub returns : goal.returns
unfolding letters_at
returns c =
    let some : (length c.args.letters.now == 0) ≡ false = sym c.is_empty.ensures ∙ c.if-is_empty.false in
    where_shown (length c.args.letters.now == 0) c.args.text.now.items (some_letters c.args.places.now c.args.y c.args.letters.now) c.put_some_letters.new.text.items some c.in_ok-put_some_letters.ensures
