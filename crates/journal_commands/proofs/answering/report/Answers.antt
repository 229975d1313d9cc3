-- The clients stand for those of the world, which is one of this plan.
use Rattle.std.proofs.Common.{◌∙◌, sym}
use Rattle.world_core.specs.Runs.{world_of}
use Rattle.journal_commands.proofs.Answered.{run-plan, then-IfOk}
use Rattle.journal_commands.proofs.answering.report.Goals as goal

pub returns : goal.returns
returns c =
    let world = c.args.world.now in
    then-IfOk c.report_text.result c.report_text.ensures _
    (λ text told. told (world_of world) (run-plan world.plan world.events c.requires.run ∙ sym c.plan.ensures) (rw c.plan.ensures c.clients.ensures))
