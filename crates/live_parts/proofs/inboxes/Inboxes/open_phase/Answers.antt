use Rattle.std.proofs.Common.{◌∙◌, ap, List, []}
use Rattle.dpc_lists.specs.Lists.{nth}
use Rattle.live_parts.specs.declared.inbox.Awaited.{Awaited}
use Rattle.live_parts.specs.Inboxes.{opened}
use Rattle.live_parts.proofs.Filing.{opened_boxes}
use Rattle.live_parts.proofs.inboxes.Inboxes.open_phase.Goals as goal

pub returns : goal.returns
returns c = λ w xs s.
    opened_boxes c.args.self.now c.open_all.new.boxes.items w c.args.directives.now xs s
    (λ t. c.in_ok-open_all.ensures t ∙ ap (λ (bs : List (List Awaited)). opened t c.args.directives.now (nth [] bs t)) c.self.view_is)
