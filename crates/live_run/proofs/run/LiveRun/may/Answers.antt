use Rattle.std.proofs.Common.{◌∙◌, ap}
use Rattle.dpc_model.specs.declared.scripts.Script.{Script}
use Rattle.world_model.specs.Schedules.{progress, may}
use Rattle.law_schedules.proofs.Journals.{progress-run}
use Rattle.live_run.specs.Lives.{LiveRunOf, script_of}
use Rattle.live_run.proofs.Lives.{may_told}
use Rattle.live_run.proofs.run.LiveRun.may.Goals as goal

pub returns : goal.returns
returns c =
    let script : Script = script_of c.self.inside.world.plan c.self.inside.timetable in
    let events = c.self.inside.world.events in
    let live = ap (λ (r : LiveRunOf). r.spent) c.self.view_is ∙ c.requires in
    c.may.ensures script (progress script events) c.self.invariant.1 (progress-run script events) (c.self.invariant.2 live).1
    ∙ may_told script events c.args.e ∙ ap (λ (r : LiveRunOf). may r.script r.events c.args.e) c.self.view_is
