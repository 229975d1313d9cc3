use Rattle.std.proofs.Common.{◌≡◌, List}
use Rattle.dpc_model.specs.Parts.{Inputs, processed}
use Rattle.dpc_model.specs.declared.operators.OpSpec.{OpSpec}
use Rattle.law_buckets.specs.Series.{buckets_from, AreReady}
use Rattle.pipeline.specs.Running.{StandsForWork, HasRun}
use Rattle.pipeline.proofs.milling.run_ready.Given as goal

-- the first i buckets were processed
abbrev pub invariant-loop-i : goal.invariant-loop-i
invariant-loop-i l = record {
  held : l.keeper.keeper.held ≡ l.fn.keeper.keeper.held;
  ran : (ops : List OpSpec) → (x : Inputs) → StandsForWork ops l.inputs l.fn.keeper x → AreReady l.inputs.width x l.count
      → HasRun ops l.inputs.width l.keeper.keeper.state (processed l.inputs.width x) (buckets_from l.inputs.width x x.cursor l.i) x.cursor l.added.items;
}
