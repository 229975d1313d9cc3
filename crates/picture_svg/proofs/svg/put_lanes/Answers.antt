use Rattle.picture_svg.proofs.Parts.{four_parts}
use Rattle.picture_svg.proofs.svg.put_lanes.Goals as goal

pub returns : goal.returns
returns c =
    rw (c.in_ok-put_clients.ensures, c.in_ok-put_replicas.ensures, c.in_ok-put_links.ensures, c.in_ok-put_sources.ensures, c.source_top.ensures.top, c.step_of.ensures.step, c.len-sources.ensures)
    (four_parts c.args.text.now.items _ _ _ _)
