use Rattle.std.proofs.Common.{◌≡◌, ◌∙◌, ◌++◌, ◌∷◌, [], Bool, true, length, sym, subst, ap, Err}
use Rattle.dpc_lists.proofs.Truths.{true-not-false}
use Rattle.dpc_model.specs.declared.messages.Event.{Event}
use Rattle.dpc_model.specs.declared.messages.Event.TheVariants as event
use Rattle.dpc_model.specs.declared.scripts.Script.{Script}
use Rattle.world_model.specs.Worlds.{World, happens}
use Rattle.world_model.specs.Schedules.{progress, may, is_live_so_far}
use Rattle.world_core.specs.Handing.{IsStaleAt, is_loss}
use Rattle.world_core.specs.Runs.{RunOf, world_of}
use Rattle.world_core.specs.declared.faults.CommitFault.TheVariants as fault
use Rattle.law_work.specs.TrueWork.{IsTrueWork}
use Rattle.law_schedules.proofs.Journals.{progress-run}
use Rattle.live_run.specs.Courses.{IsOf, Stands}
use Rattle.live_run.specs.Lives.{LiveRunOf, script_of}
use Rattle.live_run.proofs.Lives.{may_told, next_live, next_world, next_course}
use Rattle.live_run.proofs.Work.{left_by, same_fault, run_seen, world_seen, still_seen}
use Rattle.live_run.proofs.run.LiveRun.put_back.Goals as goal

pub compare_done-requires : goal.compare_done-requires
compare_done-requires c = subst (λ (r : LiveRunOf). IsTrueWork r.script.plan c.args.done.order) (sym c.self.view_is) c.requires

pub put_back-requires : goal.put_back-requires
put_back-requires c = subst (λ (r : LiveRunOf). IsTrueWork r.script.plan c.args.done.order) (sym c.self.view_is) c.requires

pub returns-in-Err-clause-stale : goal.returns-in-Err-clause-stale
returns-in-Err-clause-stale c = λ had needed told.
    let t = c.self.inside.timetable in
    let w : RunOf = c.self.inside.world in
    let before = c.self.invariant.2 c.if-self.false in
    let why : c.in-Err.fault ≡ fault.Stale had needed = same_fault c.in-Err.fault (fault.Stale had needed) told in
    let at = c.in-Err.ensures.stale had needed (ap Err why) in (
      still_seen t w c.in-Err.fault had needed c.is_loss-self-inside.result c.self.inside.spent c.args.self.now c.is_loss-self-inside.ensures why c.if-self.false c.self.view_is,
      subst (λ (r : RunOf). IsStaleAt r c.args.done.order had needed) (world_seen t w c.self.inside.spent c.args.self.now before.0 c.if-self.false c.self.view_is) at,
    )

pub invariant_of-self-in-Err-put_back : goal.invariant_of-self-in-Err-put_back
invariant_of-self-in-Err-put_back c =
    let t = c.self.inside.timetable in
    let w : RunOf = c.self.inside.world in
    let script : Script = script_of w.plan t in
    let before = c.self.invariant.2 c.if-self.false in
    let ok : c.put_back.new.self ≡ record w { spent = is_loss c.in-Err-put_back.fault } =
    left_by c.in-Err-put_back.fault w c.put_back.new.self before.0 c.in-Err-put_back.ensures.lost (λ had needed e. (c.in-Err-put_back.ensures.stale had needed (ap Err e)).0) in (
      subst (λ (r : RunOf). is_live_so_far (script_of r.plan t) r.events ≡ true) (sym ok) c.self.invariant.0,
      subst (λ (r : RunOf). IsOf (script_of r.plan t) t) (sym ok) c.self.invariant.1,
      λ h. (
        ap (λ (r : RunOf). r.spent) ok ∙ sym c.is_loss-self-inside-in-Err-put_back.ensures ∙ h,
        subst (λ (r : RunOf). Stands c.self.inside.course (progress (script_of r.plan t) r.events)) (sym ok) before.1,
      ),
    )

pub returns-in-Err-put_back-clause-stale : goal.returns-in-Err-put_back-clause-stale
returns-in-Err-put_back-clause-stale c = λ had needed told.
    let t = c.self.inside.timetable in
    let w : RunOf = c.self.inside.world in
    let lost : Bool = c.is_loss-self-inside-in-Err-put_back.result in
    let before = c.self.invariant.2 c.if-self.false in
    let why : c.in-Err-put_back.fault ≡ fault.Stale had needed = same_fault c.in-Err-put_back.fault (fault.Stale had needed) told in
    let at = c.in-Err-put_back.ensures.stale had needed (ap Err why) in (
      ap (λ (r : RunOf). run_seen t r lost) at.0
          ∙ still_seen t w c.in-Err-put_back.fault had needed lost c.self.inside.spent c.args.self.now c.is_loss-self-inside-in-Err-put_back.ensures why c.if-self.false c.self.view_is,
      subst (λ (r : RunOf). IsStaleAt r c.args.done.order had needed) (world_seen t w c.self.inside.spent c.args.self.now before.0 c.if-self.false c.self.view_is) at.1,
    )

pub invariant_of-self-in_err-note : goal.invariant_of-self-in_err-note
invariant_of-self-in_err-note c =
    let t = c.self.inside.timetable in
    let w : RunOf = c.self.inside.world in
    let script : Script = script_of w.plan t in
    let m : Event = event.Mill c.args.done.order.node (length c.args.done.order.buckets) in
    let is : c.in-Ok.e ≡ m = c.in-Ok.ensures in
    let told : may script w.events c.in-Ok.e ≡ true = subst (λ (r : LiveRunOf). may r.script r.events c.in-Ok.e ≡ true) (sym c.self.view_is) (sym c.may.ensures ∙ c.if-not-may.false) in
    let next : Event → RunOf = λ e. record w { events = w.events ++ e ∷ [] } in
    let ok : c.put_back.new.self ≡ next c.in-Ok.e = c.in_default-put_back.ensures.ok ∙ ap next (sym is) in (
      subst (λ (r : RunOf). is_live_so_far (script_of r.plan t) r.events ≡ true) (sym ok) (next_live script w.events c.in-Ok.e c.self.invariant.0 told),
      subst (λ (r : RunOf). IsOf (script_of r.plan t) t) (sym ok) c.self.invariant.1,
      λ h. absurd (true-not-false h),
    )

pub invariant_of-self-2 : goal.invariant_of-self-2
invariant_of-self-2 c =
    let t = c.self.inside.timetable in
    let w : RunOf = c.self.inside.world in
    let script : Script = script_of w.plan t in
    let m : Event = event.Mill c.args.done.order.node (length c.args.done.order.buckets) in
    let is : c.in-Ok.e ≡ m = c.in-Ok.ensures in
    let told : may script w.events c.in-Ok.e ≡ true = subst (λ (r : LiveRunOf). may r.script r.events c.in-Ok.e ≡ true) (sym c.self.view_is) (sym c.may.ensures ∙ c.if-not-may.false) in
    let next : Event → RunOf = λ e. record w { events = w.events ++ e ∷ [] } in
    let ok : c.put_back.new.self ≡ next c.in-Ok.e = c.in_default-put_back.ensures.ok ∙ ap next (sym is) in
    let before = c.self.invariant.2 c.if-self.false in
    let world : world_of c.put_back.new.self ≡ happens (progress script w.events).world c.in-Ok.e = ap world_of ok ∙ next_world script w.events c.in-Ok.e in
    let sent = c.envelope_count-sent.ensures ∙ ap (λ (v : World). length v.envelopes) (sym (progress-run script w.events)) in
    let after : Stands c.note.new.self (progress script (w.events ++ c.in-Ok.e ∷ [])) =
    next_course script w.events c.in-Ok.e c.note.new.self
    (c.in_ok-note.ensures script (progress script w.events) c.self.invariant.1 world sent (may_told script w.events c.in-Ok.e ∙ told) before.1) in (
      subst (λ (r : RunOf). is_live_so_far (script_of r.plan t) r.events ≡ true) (sym ok) (next_live script w.events c.in-Ok.e c.self.invariant.0 told),
      subst (λ (r : RunOf). IsOf (script_of r.plan t) t) (sym ok) c.self.invariant.1,
      λ h. (ap (λ (r : RunOf). r.spent) ok ∙ before.0, subst (λ (r : RunOf). Stands c.note.new.self (progress (script_of r.plan t) r.events)) (sym ok) after),
    )
