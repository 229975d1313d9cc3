use Rattle.std.proofs.Common.{◌≡◌, map, take}
use Rattle.dpc_model.specs.Fragments.{stream_upto}
use Rattle.trial_ideal.proofs.all_upto.Given as goal

abbrev pub invariant-loop-stream : goal.invariant-loop-stream
invariant-loop-stream l = l.out.items ≡ map (stream_upto l.plan l.b l.frags) (take l.stream-index l.streams)
