use Rattle.std.proofs.Common.{◌≡◌, ◌∙◌, true, List, map, refl, sym, subst, ap}
use Rattle.std.specs.Prelude.{fold}
use Rattle.dpc_model.specs.declared.scripts.Phase.{Phase as PhaseSpec}
use Rattle.dpc_model.specs.declared.scripts.Script.{Script}
use Rattle.world_model.specs.Schedules.{progress, is_live_so_far, quiet_limit}
use Rattle.world_core.specs.Runs.{RunOf}
use Rattle.live_run.specs.Courses.{Stands}
use Rattle.live_run.specs.Lives.{script_of}
use Rattle.live_run.proofs.Lives.{first_live, first_course}
use Rattle.live_run.proofs.run.LiveRun.open.Goals as goal

pub invariant_of-result : goal.invariant_of-result
invariant_of-result c =
    let t = c.new-timetable.result in
    let script : Script = script_of c.args.script.plan t in
    let fresh = c.in_ok-new.ensures in (
      subst (λ (r : RunOf). is_live_so_far (script_of r.plan t) r.events ≡ true) (sym fresh) (first_live script),
      record {
        phases = refl;
        settle = refl;
        quiet = c.new-timetable.ensures.quiet ∙ ap (λ (r : RunOf). quiet_limit r.plan) (sym fresh);
        last = c.new-timetable.ensures.last ∙ ap (λ (ps : List PhaseSpec). fold (λ _ now. now) 0 (map (λ (p : PhaseSpec). p.now) ps)) (sym c.new-timetable.ensures.phases);
      },
      λ h. (
        ap (λ (r : RunOf). r.spent) fresh,
        subst (λ (r : RunOf). Stands c.in_ok-course.course (progress (script_of r.plan t) r.events)) (sym fresh)
            (first_course script c.in_ok-course.course (c.in_ok-course.ensures script refl)),
      ),
    )
