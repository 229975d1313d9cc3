use Rattle.std.proofs.Common.{◌∙◌, ◌==◌, ◌++◌, ◌∷◌, cond, ap, List, []}
use Rattle.dpc_lists.specs.Lists.{nth}
use Rattle.live_parts.specs.declared.inbox.Awaited.{Awaited}
use Rattle.live_parts.specs.Inboxes.{newly_awaited}
use Rattle.live_parts.proofs.inboxes.Inboxes.push.Goals as goal

pub returns : goal.returns
returns c = λ t.
    c.in_ok-push_at.ensures t
    ∙ ap (λ (qs : List Awaited). qs ++ cond (t == c.args.to) (newly_awaited c.args.number c.args.sender ∷ []) [])
    (c.in_ok-reach.ensures.each t ∙ ap (λ (bs : List (List Awaited)). nth [] bs t) c.self.view_is)
