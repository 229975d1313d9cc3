use Rattle.std.proofs.Common.{◌∙◌, sym, ap}
use Rattle.dpc_model.specs.declared.scripts.Script.{Script}
use Rattle.world_model.specs.Schedules.{progress}
use Rattle.live_run.specs.Lives.{LiveRunOf, script_of}
use Rattle.live_run.proofs.run.LiveRun.phase.Goals as goal

pub returns : goal.returns
returns c =
    let script : Script = script_of c.self.inside.world.plan c.self.inside.timetable in
    let events = c.self.inside.world.events in
    let stands = (c.self.invariant.2 (ap (λ (r : LiveRunOf). r.spent) c.self.view_is ∙ c.requires)).1 in
    sym stands.moment.phase ∙ ap (λ (r : LiveRunOf). (progress r.script r.events).phase) c.self.view_is
