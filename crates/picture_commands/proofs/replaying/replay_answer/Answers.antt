-- A replay that stops, and one that is whole.
use Rattle.std.proofs.Common.{◌≡◌, length, refl, ap, ◌∙◌}
use Rattle.journal_commands.proofs.Answered.{then-IfOk}
use Rattle.picture_model.specs.Marking.{losses_of}
use Rattle.picture_commands.proofs.Replayed.{halted-so, whole-is}
use Rattle.picture_commands.proofs.replaying.replay_answer.Goals as goal

pub returns-in-Err : goal.returns-in-Err
returns-in-Err c =
    halted-so c.args.form c.args.script c.args.events.now (length c.args.events.now) c.in-Err.fault c.stopped.result refl c.in-Err.ensures.err c.stopped.ensures

pub returns-in-Ok : goal.returns-in-Ok
returns-in-Ok c =
    let losses = c.replay_watched.new.watcher.losses.items in
    let told : losses ≡ losses_of c.args.script =
    ap (λ ls. ls.items) (c.in-Ok.ensures.saw (c.in_ok-picturing.ensures.drawn, refl)).1 ∙ c.in_ok-picturing.ensures.losses in
    then-IfOk c.world_answer.result c.world_answer.ensures _
    (λ outcome h. whole-is c.args.form c.args.script losses c.args.events.now c.in-Ok.world outcome told c.in-Ok.ensures.run c.in-Ok.ensures.whole h)
