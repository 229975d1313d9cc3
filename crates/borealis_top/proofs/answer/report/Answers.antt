-- The clients stand for those of the world, which is one of this plan.
use Rattle.std.proofs.Common.{◌∙◌, sym}
use Rattle.world_core.specs.Runs.{world_of}
use Rattle.journal_commands.proofs.Answered.{run-plan, then-IfOk}
use Rattle.borealis_top.proofs.answer.report.Goals as goal

pub returns-in-Text : goal.returns-in-Text
returns-in-Text c =
    let world = c.args.world.now in
    rw c.in-Text.is (then-IfOk c.report_text.result c.report_text.ensures _
    (λ text told. told (world_of world) (run-plan world.plan world.events c.requires.run ∙ sym c.plan.ensures) (rw c.plan.ensures c.clients.ensures)))

pub returns-in-Short : goal.returns-in-Short
returns-in-Short c =
    let world = c.args.world.now in
    rw c.in-Short.is (then-IfOk c.report_short.result c.report_short.ensures _
    (λ text told. told (world_of world) (run-plan world.plan world.events c.requires.run ∙ sym c.plan-in-Short.ensures) (rw c.plan-in-Short.ensures c.clients-in-Short.ensures)))

pub returns-in-Json : goal.returns-in-Json
returns-in-Json c =
    let world = c.args.world.now in
    rw c.in-Json.is (then-IfOk c.report_json.result c.report_json.ensures _
    (λ text told. told (world_of world) (run-plan world.plan world.events c.requires.run ∙ sym c.plan-in-Json.ensures) (rw c.plan-in-Json.ensures c.clients-in-Json.ensures)))

pub returns-in-Frames : goal.returns-in-Frames
returns-in-Frames c = rw c.in-Frames.is c.framed_report.ensures
