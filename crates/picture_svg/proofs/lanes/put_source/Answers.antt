use Rattle.picture_svg.specs.Lanes.{source_lane}
use Rattle.picture_svg.proofs.Parts.{three_parts}
use Rattle.picture_svg.proofs.lanes.put_source.Goals as goal

pub returns : goal.returns
unfolding source_lane
returns c =
    rw (c.in_ok-put_line_path.ensures, c.in_ok-put_area_path.ensures, c.in_ok-put_text.ensures, c.as_slice.ensures.value, c.as_slice-2.ensures.value, c.in_ok-bounds.ensures, c.in_ok-sents.ensures)
    (three_parts c.args.text.now.items _ _ _)
