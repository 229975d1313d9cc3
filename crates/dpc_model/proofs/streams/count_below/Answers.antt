use Rattle.std.proofs.Common.{rules, nat_lt}
use Rattle.std.proofs.lemmas.List.Sorted.{IsPartitionPoint-from_clause, IsPartitionedBy-ltb}
use Rattle.dpc_model.specs.Streams.{time_of}
use Rattle.dpc_model.specs.declared.tuples.Tuple.{Tuple}
use Rattle.dpc_model.proofs.Halves.{rises, count-at}
use Rattle.dpc_model.proofs.streams.count_below.Goals as goal

pub returns-clause-count : goal.returns-clause-count
returns-clause-count c =
    let ts = c.args.tuples.now in
    let parted = IsPartitionedBy-ltb time_of ts c.args.time (rises time_of ts c.requires) in
    let point = IsPartitionPoint-from_clause (λ (t : Tuple). nat_lt t.stime c.args.time) ts _ c.partition_point.ensures.partitioned parted (λ a r q k. search rules) in
    count-at c.args.time c.partition_point.result ts c.requires c.partition_point.ensures.bound point
