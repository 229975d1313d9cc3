use Rattle.std.proofs.Common.{◌≡◌, take}
use Rattle.dpc_model.specs.Fragments.{tagged_from}
use Rattle.sunion.specs.Ports.{bucket_of, KeptInOrder}
use Rattle.sunion.proofs.buckets.bucket.Given as goal

-- the tuples of the ports so far
abbrev pub invariant-loop-port : goal.invariant-loop-port
invariant-loop-port l = KeptInOrder l.ports → l.tagged.items ≡ tagged_from 0 (bucket_of l.width l.k (take l.port l.ports))
