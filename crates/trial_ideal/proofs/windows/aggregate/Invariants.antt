use Rattle.std.proofs.Common.{◌≡◌, ◌*◌}
use Rattle.std.specs.List.{flat_map, range_with_len}
use Rattle.dpc_model.specs.Operators.{window_rows}
use Rattle.trial_ideal.proofs.windows.aggregate.Given as goal

abbrev pub invariant-loop-j : goal.invariant-loop-j
invariant-loop-j l = l.out.items ≡ flat_map (λ j. window_rows l.size l.group l.aggs l.tuples (j * l.step)) (range_with_len 0 l.j)
