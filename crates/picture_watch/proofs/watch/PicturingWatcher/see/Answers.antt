use Rattle.std.proofs.Common.{refl, ap, ◌∙◌, subst}
use Rattle.dpc_model.specs.declared.messages.Event.{Event}
use Rattle.dpc_model.specs.declared.plans.Plan.{Plan}
use Rattle.run_watchers.specs.Watching.{gone_on}
use Rattle.picture_watch.specs.Seen.{IsClosed, IsNoted, IsLinked}
use Rattle.picture_watch.proofs.Seeing.{opened, noted, no-phase}
use Rattle.picture_watch.proofs.watch.PicturingWatcher.see.Goals as goal

pub returns-in-Phase-clause-saw : goal.returns-in-Phase-clause-saw
returns-in-Phase-clause-saw c = λ start before is seen.
    let mid = c.close.new.self in
    let closed : IsClosed c.args.world.now c.args.self.now mid = c.in_ok-close.ensures {u = tt} in (
      opened before c.args.world.now c.in-Phase.number c.args.self.now mid
          (record { columns = mid.columns; promises = mid.promises; number = c.in-Phase.number; clock = mid.clock; sources = mid.sources; marks = c.new.result; cuts = mid.cuts; tallies = mid.tallies; losses = mid.losses })
          (is ∙ ap (λ (e : Event). gone_on before e) c.in-Phase.is) seen.0 closed refl refl refl refl refl c.new.ensures.items refl refl,
      closed.losses ∙ seen.1,
    )

pub returns-clause-saw : goal.returns-clause-saw
returns-clause-saw c = λ start before is seen.
    let told : IsNoted c.args.world.now.plan c.args.event c.args.self.now c.note.new.self =
    subst (λ (plan : Plan). IsNoted plan c.args.event c.args.self.now c.note.new.self) c.plan.ensures (c.in_ok-note.ensures {u = tt}) in
    let linked : IsLinked c.args.world.now.plan c.args.event c.note.new.self c.link.new.self =
    subst (λ (plan : Plan). IsLinked plan c.args.event c.note.new.self c.link.new.self) c.plan-2.ensures (c.in_ok-link.ensures {u = tt}) in (
      noted before c.args.world.now c.args.event is c.args.self.now c.note.new.self c.link.new.self (no-phase c.args.event c.in_default.not-Phase) seen.0 told linked,
      linked.losses ∙ told.losses ∙ seen.1,
    )
