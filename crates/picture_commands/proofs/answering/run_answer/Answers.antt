-- A run past the limits, one that leaves a client open, and one that leaves none.
use Rattle.std.proofs.Common.{◌≡◌, false, inl, inr, Err, refl, sym, ap, ◌∙◌, rules}
use Rattle.world_core.specs.Runs.{world_of}
use Rattle.world_model.specs.Worlds.{all_settled}
use Rattle.picture_model.specs.Marking.{losses_of}
use Rattle.picture_commands.proofs.Ends.{stopped-so, ends-open, ends-told}
use Rattle.picture_commands.proofs.answering.run_answer.Goals as goal
use Rattle.picture_commands.proofs.answering.run_answer.Goals.{else-settle-via-then-settle+else-not-settled, else-settle-via-else-settle}

pub returns-in-Err : goal.returns-in-Err
returns-in-Err c = stopped-so c.args.form c.args.script c.in-Err.fault c.stopped.result (λ envelopes items is. c.in-Err.ensures.long envelopes items (ap Err is)) c.stopped.ensures

pub returns-then-not-settled : goal.returns-then-not-settled
returns-then-not-settled c =
    let left : all_settled (world_of c.in-Ok.world) ≡ false = search rules in
    let told : c.run_watched.new.watcher.losses.items ≡ losses_of c.args.script =
    ap (λ ls. ls.items) (c.in-Ok.ensures.saw (c.in_ok-picturing.ensures.drawn, refl)).1 ∙ c.in_ok-picturing.ensures.losses in
    ends-open c.args.form c.args.script c.run_watched.new.watcher.losses.items c.in-Ok.world c.in_ok-text.text.items c.in-Ok.ensures.ok c.in-Ok.ensures.within told (c.in_ok-text.ensures {u = tt}) c.if-settle.true left

pub returns : goal.returns
returns c =
    let told : c.run_watched.new.watcher.losses.items ≡ losses_of c.args.script =
    ap (λ ls. ls.items) (c.in-Ok.ensures.saw (c.in_ok-picturing.ensures.drawn, refl)).1 ∙ c.in_ok-picturing.ensures.losses in
    ends-told c.args.form c.args.script c.run_watched.new.watcher.losses.items c.in-Ok.world c.in_ok-text.text.items c.in-Ok.ensures.ok c.in-Ok.ensures.within told (c.in_ok-text.ensures {u = tt})
    (elim c.else-settle.branch [
      | else-settle-via-then-settle+else-not-settled w ↦ inr (sym w.settled.ensures ∙ w.if-not-settled.false)
      | else-settle-via-else-settle w ↦ inl w.if-settle.false
    ])
