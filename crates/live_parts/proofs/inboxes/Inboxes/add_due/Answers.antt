use Rattle.std.proofs.Common.{◌∙◌, ◌++◌, ap, List, []}
use Rattle.dpc_lists.specs.Lists.{nth}
use Rattle.world_core.specs.Runs.{world_of}
use Rattle.live_parts.specs.declared.due.Due.{Due}
use Rattle.live_parts.specs.declared.inbox.Awaited.{Awaited}
use Rattle.live_parts.specs.Dues.{deliveries_in}
use Rattle.live_parts.proofs.Dues.{due-at}
use Rattle.live_parts.proofs.inboxes.Inboxes.add_due.Goals as goal

pub returns : goal.returns
returns c = λ xs s.
    let w = world_of c.args.world.now in
    let old = c.args.due.now.items in
    let a = c.args.actor in
    c.in_ok-add_due_in.ensures ∙ ap (λ (bs : List (List Awaited)). old ++ deliveries_in w a (nth [] bs a)) c.self.view_is
    ∙ ap (λ (qs : List Awaited). old ++ deliveries_in w a qs) (s.each a) ∙ ap (λ (ds : List Due). old ++ ds) (due-at w a xs)
