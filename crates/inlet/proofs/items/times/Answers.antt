use Rattle.std.proofs.Common.{◌∙◌, ◌++◌, ap, sym, append-nil, ℕ, Option, option_to_list}
use Rattle.inlet.proofs.Folds.{times-more}
use Rattle.inlet.proofs.items.times.Goals as goal
use Rattle.inlet.proofs.items.times.Goals.{in-Some+in_ok-push, in_default}

pub loop-item-preserved : goal.loop-item-preserved
loop-item-preserved c =
    let all = times-more c.loop-item.item-index c.args.items.now c.item-item.result c.loop-item.times.items c.time_in.result c.loop-item-test.true c.item-item.is c.loop-item.invariant c.time_in.ensures in
    let told = λ (time : Option ℕ). c.loop-item.times.items ++ option_to_list time in
    elim c.match-time_in.branch [
      | in-Some+in_ok-push w ↦ ap (λ times. times.items) w.times-is ∙ w.in_ok-push.ensures.items ∙ ap told (sym w.in-Some.is) ∙ all
      | in_default w ↦ ap (λ times. times.items) w.times-is ∙ sym (append-nil c.loop-item.times.items) ∙ ap told (sym w.in_default.is) ∙ all
    ]
