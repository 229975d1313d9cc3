use Rattle.std.proofs.Common.{◌≡◌, ◌*◌, map, take}
use Rattle.dpc_model.specs.Inlets.{InletState}
use Rattle.dpc_model.specs.Parts.{Inputs, AreInOrder}
use Rattle.dpc_model.specs.Streams.{count_below}
use Rattle.sunion.specs.Unions.{StandsForInputs}
use Rattle.pipeline.proofs.counting.done_counts.Given as goal

-- the first ports are counted
abbrev pub invariant-loop-port : goal.invariant-loop-port
invariant-loop-port l =
    (x : Inputs) → StandsForInputs l.inputs x → AreInOrder x → l.counts.items ≡ map (λ (i : InletState). count_below i.held.stable (x.cursor * l.inputs.width)) (take l.port x.inlets)
