use Rattle.std.proofs.Common.{◌≡◌, ◌∙◌, ◌++◌, ◌∷◌, [], true, length, sym, subst, ap}
use Rattle.dpc_lists.proofs.Truths.{true-not-false}
use Rattle.dpc_model.specs.declared.scripts.Script.{Script}
use Rattle.world_model.specs.Worlds.{World, happens}
use Rattle.world_model.specs.Schedules.{progress, may, is_live_so_far}
use Rattle.world_core.specs.Runs.{RunOf, world_of}
use Rattle.law_schedules.proofs.Journals.{progress-run}
use Rattle.live_run.specs.Courses.{IsOf, Stands}
use Rattle.live_run.specs.Lives.{LiveRunOf, script_of}
use Rattle.live_run.proofs.Lives.{may_told, next_live, next_world, next_course}
use Rattle.live_run.proofs.run.LiveRun.apply.Goals as goal

pub invariant_of-self-in_err-note : goal.invariant_of-self-in_err-note
invariant_of-self-in_err-note c =
    let t = c.self.inside.timetable in
    let script : Script = script_of c.self.inside.world.plan t in
    let events = c.self.inside.world.events in
    let told : may script events c.args.e ≡ true = subst (λ (r : LiveRunOf). may r.script r.events c.args.e ≡ true) (sym c.self.view_is) (sym c.may.ensures ∙ c.if-not-may.false) in
    let ok : c.apply.new.self ≡ record c.self.inside.world { events = events ++ c.args.e ∷ [] } = c.in_ok-apply.ensures.ok in (
      subst (λ (r : RunOf). is_live_so_far (script_of r.plan t) r.events ≡ true) (sym ok) (next_live script events c.args.e c.self.invariant.0 told),
      subst (λ (r : RunOf). IsOf (script_of r.plan t) t) (sym ok) c.self.invariant.1,
      λ h. absurd (true-not-false h),
    )

pub invariant_of-self-2 : goal.invariant_of-self-2
invariant_of-self-2 c =
    let t = c.self.inside.timetable in
    let script : Script = script_of c.self.inside.world.plan t in
    let events = c.self.inside.world.events in
    let told : may script events c.args.e ≡ true = subst (λ (r : LiveRunOf). may r.script r.events c.args.e ≡ true) (sym c.self.view_is) (sym c.may.ensures ∙ c.if-not-may.false) in
    let ok : c.apply.new.self ≡ record c.self.inside.world { events = events ++ c.args.e ∷ [] } = c.in_ok-apply.ensures.ok in
    let before = c.self.invariant.2 c.if-self.false in
    let world : world_of c.apply.new.self ≡ happens (progress script events).world c.args.e = ap world_of ok ∙ next_world script events c.args.e in
    let sent = c.envelope_count-sent.ensures ∙ ap (λ (v : World). length v.envelopes) (sym (progress-run script events)) in
    let after : Stands c.note.new.self (progress script (events ++ c.args.e ∷ [])) =
    next_course script events c.args.e c.note.new.self
    (c.in_ok-note.ensures script (progress script events) c.self.invariant.1 world sent (may_told script events c.args.e ∙ told) before.1) in (
      subst (λ (r : RunOf). is_live_so_far (script_of r.plan t) r.events ≡ true) (sym ok) (next_live script events c.args.e c.self.invariant.0 told),
      subst (λ (r : RunOf). IsOf (script_of r.plan t) t) (sym ok) c.self.invariant.1,
      λ h. (ap (λ (r : RunOf). r.spent) ok ∙ before.0, subst (λ (r : RunOf). Stands c.note.new.self (progress (script_of r.plan t) r.events)) (sym ok) after),
    )
