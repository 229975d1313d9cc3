-- The bytes that were left are those given and the rest.
use Rattle.std.proofs.Common.{ap}
use Rattle.dpc_edge.specs.Memory.{Giving}
use Rattle.dpc_edge.proofs.Pieces.{drop-split}
use Rattle.dpc_edge.proofs.memory.MemSourceSource.read.Goals as goal

pub returns-clause-gave : goal.returns-clause-gave
returns-clause-gave c =
    let front = rw c.as_slice.ensures.value at c.front_copied-given.ensures.front in
    record { bytes = rw (← c.self.view_is) (drop-split _ _ _ _ front); faults = ap (λ (g : Giving). g.faults) c.self.view_is }
