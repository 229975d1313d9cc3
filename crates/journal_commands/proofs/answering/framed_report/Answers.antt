-- The clients stand for those of the world, which is one of this plan.
use Rattle.world_core.specs.Runs.{world_of}
use Rattle.journal_commands.proofs.Answered.{run-plan, then-IfOk}
use Rattle.journal_commands.proofs.answering.framed_report.Goals as goal

pub returns : goal.returns
returns c =
    let world = c.args.world.now in
    then-IfOk c.report_frames.result c.report_frames.ensures _
    (λ bytes told. told (world_of world) (rw (run-plan world.plan world.events c.requires.run) c.clients.ensures))
