use Rattle.std.proofs.Common.{◌≡◌, map}
use Rattle.dpc_lists.specs.Lists.{range_with_len}
use Rattle.source_core.specs.Emitting.{opening_source}
use Rattle.world_parts.proofs.parts.new_sources.Given as goal

abbrev pub invariant-loop-s : goal.invariant-loop-s
invariant-loop-s l = l.sources.items ≡ map (opening_source l.plan) (range_with_len 0 l.s)
