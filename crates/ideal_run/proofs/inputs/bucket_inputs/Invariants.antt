use Rattle.std.proofs.Common.{◌≡◌, map, take}
use Rattle.dpc_model.specs.Fragments.{tagged_from}
use Rattle.ideal_run.specs.Buckets.{bucket_of}
use Rattle.ideal_run.proofs.inputs.bucket_inputs.Given as goal

abbrev pub invariant-loop-port : goal.invariant-loop-port
invariant-loop-port l = l.inputs.items ≡ tagged_from 0 (map (bucket_of l.plan l.k) (take l.port l.reads))
