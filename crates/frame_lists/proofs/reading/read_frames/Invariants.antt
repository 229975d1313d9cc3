use Rattle.std.proofs.Common.{length}
use Rattle.frame_lists.proofs.Steps.{IsUnderWay}
use Rattle.frame_lists.proofs.reading.read_frames.Given as goal

abbrev pub invariant-loop-rest : goal.invariant-loop-rest
invariant-loop-rest g l = IsUnderWay (g.S.Sort.part l.sort) l.bytes l.parts.items l.rest

abbrev pub decreases-loop-rest : goal.decreases-loop-rest
decreases-loop-rest g l = length l.rest
