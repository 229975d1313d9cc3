use Rattle.std.proofs.Common.{◌≡◌, ◌==◌, false, length, sym, ◌∙◌}
use Rattle.picture_svg.specs.Shapes.{some_path, path_of}
use Rattle.picture_svg.proofs.Parts.{where_shown}
use Rattle.picture_svg.proofs.shapes.put_path.Goals as goal

pub returns : goal.returns
unfolding path_of
returns c =
    let some : (length c.args.moves.now == 0) ≡ false = sym c.is_empty.ensures ∙ c.if-is_empty.false in
    where_shown (length c.args.moves.now == 0) c.args.text.now.items (some_path c.args.class.now c.args.moves.now) c.put_some_path.new.text.items some c.in_ok-put_some_path.ensures
