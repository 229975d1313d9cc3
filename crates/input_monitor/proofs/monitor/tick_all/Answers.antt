use Rattle.std.proofs.Common.{◌∙◌, ap, List, slice_set, slice_index_or}
use Rattle.dpc_model.specs.Replicas.{Watch, after_tick}
use Rattle.dpc_lists.proofs.Mapped.{mapped-more}
use Rattle.input_monitor.proofs.monitor.tick_all.Goals as goal

pub loop-watch-preserved : goal.loop-watch-preserved
loop-watch-preserved c =
    let i = c.loop-watch.watch-index in
    let after = c.tick.new.self in
    let d = c.watch-item.result in
    ap (λ (ws : List Watch). slice_set ws i after) c.loop-watch.invariant
    ∙ mapped-more after_tick i c.args.watches.now after d c.loop-watch-test.true (c.tick.ensures ∙ ap (λ (ws : List Watch). after_tick (slice_index_or ws i d)) c.loop-watch.invariant)
