-- Nothing waits at an actor past all boxes.
use Rattle.std.proofs.Common.{◌≡◌, ◌∙◌, ◌++◌, sym, ap, List, [], append-nil}
use Rattle.dpc_lists.specs.Lists.{nth}
use Rattle.dpc_lists.proofs.Elements.{nth-past}
use Rattle.world_core.specs.Runs.{world_of}
use Rattle.live_parts.specs.declared.inbox.Awaited.{Awaited}
use Rattle.live_parts.specs.Dues.{deliveries_in}
use Rattle.live_parts.proofs.inboxes.add_due_in.Goals as goal

pub returns-in_default : goal.returns-in_default
returns-in_default c =
    let old = c.args.due.now.items in
    let none : nth [] c.args.boxes.now.items c.args.actor ≡ [] =
    ap (λ (bs : List (List Awaited)). nth [] bs c.args.actor) (sym c.deref.ensures.value) ∙ nth-past [] c.deref.result.now c.args.actor c.in_default.ensures.lookup.3 in
    sym (append-nil old) ∙ ap (λ (qs : List Awaited). old ++ deliveries_in (world_of c.args.world.now) c.args.actor qs) (sym none)
