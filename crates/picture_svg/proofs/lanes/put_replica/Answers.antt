use Rattle.picture_svg.specs.Lanes.{replica_lane}
use Rattle.picture_svg.proofs.Parts.{two_parts}
use Rattle.picture_svg.proofs.lanes.put_replica.Goals as goal

pub returns : goal.returns
unfolding replica_lane
returns c = rw (c.in_ok-put_states.ensures, c.in_ok-put_text.ensures, c.as_slice.ensures.value, c.in_ok-letters.ensures) (two_parts c.args.text.now.items _ _)
