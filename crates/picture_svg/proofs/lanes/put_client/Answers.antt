use Rattle.picture_svg.specs.Lanes.{client_lane}
use Rattle.picture_svg.proofs.Parts.{five_parts}
use Rattle.picture_svg.proofs.lanes.put_client.Goals as goal

pub returns : goal.returns
unfolding client_lane
returns c =
    rw (
      c.in_ok-put_taken.ensures,
      c.in_ok-put_total.ensures,
      c.in_ok-put_held.ensures,
      c.in_ok-put_text-2.ensures,
      c.in_ok-put_text.ensures,
      c.as_slice.ensures.value,
      c.as_slice-2.ensures.value,
      c.as_slice-3.ensures.value,
      c.in_ok-held.ensures,
      c.in_ok-stable.ensures,
    )
    (five_parts c.args.text.now.items _ _ _ _ _)
