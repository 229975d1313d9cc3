use Rattle.std.proofs.Common.{◌≡◌, ◌∙◌, ap, length, rules}
use Rattle.dpc_model.specs.Actors.{roles_of}
use Rattle.dpc_model.specs.declared.plans.Plan.{Plan}
use Rattle.dpc_model.specs.declared.scripts.Script.{Script}
use Rattle.world_model.specs.Worlds.{World}
use Rattle.law_safety.proofs.Growing.{run-plan}
use Rattle.law_schedules.proofs.Journals.{progress-run}
use Rattle.live_run.specs.Lives.{LiveRunOf, script_of}
use Rattle.live_run.proofs.run.LiveRun.actor_count.Goals as goal

pub returns : goal.returns
returns c =
    λ fresh.
    let script : Script = script_of c.self.inside.world.plan c.self.inside.timetable in
    let events = c.self.inside.world.events in
    let stands = (c.self.invariant.2 (ap (λ (r : LiveRunOf). r.spent) c.self.view_is ∙ fresh)).1 in
    let many : c.len.result ≡ length c.self.inside.course.moment.ticked.items = search rules in
    many ∙ stands.actors ∙ ap (λ (w : World). length (roles_of w.plan)) (progress-run script events) ∙ ap (λ (plan : Plan). length (roles_of plan)) (run-plan script.plan events)
    ∙ ap (λ (r : LiveRunOf). length (roles_of r.script.plan)) c.self.view_is
