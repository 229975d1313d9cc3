use Rattle.std.proofs.Common.{◌≡◌, ◌∙◌, length, refl, sym, subst, ap, Ok, None}
use Rattle.dpc_model.specs.declared.messages.Event.TheVariants as event
use Rattle.world_core.specs.Handing.{IsStaleAt}
use Rattle.live_run.specs.Lives.{LiveRunOf, world_in}
use Rattle.node_threads.specs.Halls.{HallOf}
use Rattle.node_threads.proofs.Keeping.{happened}
use Rattle.node_threads.proofs.hall.Hall.put_back.Goals as goal

-- an event that happened is counted, and passes no limit
pub invariant_of-self : goal.invariant_of-self
invariant_of-self g c =
    let told : c.put_back-told.result ≡ Ok None = c.has_happened.ensures.0 (c.if-has_happened.true) in
    let o = c.args.done.order in
    happened g.N.RunName.script c.self.inside.run c.put_back-told.new.self c.self.inside.book.total c.count.new.book.total c.self.inside.stop c.self.invariant
    (event.Mill o.node (length o.buckets)) (sym c.is_spent.ensures ∙ c.if-is_spent.false) (c.put_back-told.ensures.yes told) (c.put_back-told.ensures.within told) c.count.ensures.book

-- where the work is stale nothing changes
pub returns-in-Stale-clause-stale : goal.returns-in-Stale-clause-stale
returns-in-Stale-clause-stale g c = λ had needed same.
    let at = c.put_back-told.ensures.stale had needed (c.in-Err.is ∙ same) in
    let seen : LiveRunOf → HallOf = λ r. record { run = r; stop = c.self.inside.stop } in (
      ap seen at.0 ∙ c.self.view_is,
      refl,
      subst (λ (h : HallOf). IsStaleAt (world_in h.run) c.args.done.order had needed) c.self.view_is at.1,
    )
