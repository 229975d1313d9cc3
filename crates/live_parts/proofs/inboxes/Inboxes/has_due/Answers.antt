use Rattle.std.proofs.Common.{◌∙◌, sym, ap, not}
use Rattle.dpc_lists.specs.Lists.{list_any}
use Rattle.world_model.specs.Worlds.{World}
use Rattle.live_parts.specs.Inboxes.{is_due}
use Rattle.live_parts.proofs.Taking.{due-boxes}
use Rattle.live_parts.proofs.inboxes.Inboxes.has_due.Goals as goal

pub returns : goal.returns
returns c = λ p same s.
    ap not c.any_due.ensures ∙ ap (λ (w : World). not (list_any (list_any (is_due w)) c.args.self.now)) (sym same) ∙ due-boxes c.args.self.now p.world p.waiting s
