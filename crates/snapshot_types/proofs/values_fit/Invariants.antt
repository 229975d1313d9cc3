use Rattle.std.proofs.Common.{◌≡◌, true, take}
use Rattle.dpc_lists.specs.Lists.{list_all}
use Rattle.stream_codec.specs.Frames.{is_i64}
use Rattle.snapshot_types.proofs.values_fit.Given as goal

abbrev pub invariant-loop-value : goal.invariant-loop-value
invariant-loop-value l = list_all is_i64 (take l.value-index l.fn.values) ≡ true
