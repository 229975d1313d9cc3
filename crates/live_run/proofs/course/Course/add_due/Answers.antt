use Rattle.std.proofs.Common.{◌∙◌, ◌++◌, List, flat_map, sym, ap, subst, append_assoc}
use Rattle.world_core.specs.Runs.{world_of}
use Rattle.world_model.specs.Worlds.{World}
use Rattle.live_parts.specs.declared.due.Due.{Due}
use Rattle.live_parts.specs.Inboxes.{StandsForWaiting}
use Rattle.live_parts.specs.Dues.{deliveries_to, tick_in, dues_of}
use Rattle.live_run.proofs.course.Course.add_due.Goals as goal

pub returns : goal.returns
unfolding dues_of
returns c = λ script p is same stands.
    let w = world_of c.args.world.now in
    let a = c.args.actor in
    let old = c.args.due.now.items in
    let waits : StandsForWaiting c.args.self.now.inboxes w p.waiting = subst (λ (v : World). StandsForWaiting c.args.self.now.inboxes v p.waiting) same stands.waiting in
    c.in_ok-add_tick.ensures script p is same stands
    ∙ ap (λ (ds : List Due). ds ++ tick_in script p a) (c.in_ok-add_due.ensures p.waiting waits)
    ∙ append_assoc old (flat_map (deliveries_to w a) p.waiting) (tick_in script p a)
    ∙ ap (λ (v : World). old ++ (flat_map (deliveries_to v a) p.waiting ++ tick_in script p a)) (sym same)
