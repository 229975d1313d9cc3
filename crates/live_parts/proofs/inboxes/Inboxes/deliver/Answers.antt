use Rattle.std.proofs.Common.{◌∙◌, sym, ap, ℕ}
use Rattle.dpc_lists.specs.Lists.{changed}
use Rattle.live_parts.specs.Inboxes.{made_from}
use Rattle.live_parts.proofs.Filing.{made_boxes}
use Rattle.live_parts.proofs.inboxes.Inboxes.deliver.Goals as goal

pub returns : goal.returns
returns c = λ w xs k e s h from to first.
    made_boxes c.args.self.now c.deliver_in.new.boxes.items w xs k e s h first
    (c.deliver_in.ensures
    ∙ ap (changed c.args.to (made_from c.args.sender)) c.self.view_is
    ∙ ap (λ (t : ℕ). changed t (made_from c.args.sender) c.args.self.now) (sym to)
    ∙ ap (λ (a : ℕ). changed e.to (made_from a) c.args.self.now) (sym from))
