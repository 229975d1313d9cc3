use Rattle.picture_svg.specs.Lanes.{link_lane}
use Rattle.picture_svg.proofs.Parts.{three_parts}
use Rattle.picture_svg.proofs.lanes.put_links.Goals as goal

pub returns : goal.returns
unfolding link_lane
returns c =
    rw (c.in_ok-put_new_letters.ensures, c.in_ok-put_bar_path.ensures, c.in_ok-put_text.ensures, c.as_slice.ensures.value, c.as_slice-2.ensures.value, c.in_ok-letters.ensures, c.from.ensures) (three_parts c.args.text.now.items _ _ _)
