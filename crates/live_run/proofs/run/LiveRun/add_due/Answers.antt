use Rattle.std.proofs.Common.{◌∙◌, ◌++◌, ap}
use Rattle.dpc_model.specs.declared.scripts.Script.{Script}
use Rattle.world_model.specs.Schedules.{progress}
use Rattle.law_schedules.proofs.Journals.{progress-run}
use Rattle.live_parts.specs.Dues.{dues_of}
use Rattle.live_run.specs.Lives.{LiveRunOf, script_of}
use Rattle.live_run.proofs.run.LiveRun.add_due.Goals as goal

pub returns : goal.returns
returns c =
    let script : Script = script_of c.self.inside.world.plan c.self.inside.timetable in
    let events = c.self.inside.world.events in
    let inside = c.self.invariant.2 (ap (λ (r : LiveRunOf). r.spent) c.self.view_is ∙ c.requires) in
    c.in_ok-add_due.ensures script (progress script events) c.self.invariant.1 (progress-run script events) inside.1
    ∙ ap (λ (r : LiveRunOf). c.args.due.now.items ++ dues_of r.script (progress r.script r.events) c.args.actor) c.self.view_is
