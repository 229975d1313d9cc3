use Rattle.std.proofs.Common.{◌≡◌, List, Some}
use Rattle.dpc_model.specs.Parts.{Inputs, frontier_of, processed_and_closed}
use Rattle.dpc_model.specs.PartStands.{at_cursor}
use Rattle.dpc_model.specs.declared.operators.OpSpec.{OpSpec}
use Rattle.sunion.specs.Unions.{StandsForInputs}
use Rattle.law_buckets.specs.Series.{buckets_from, CanClose, after_closing_all}
use Rattle.pipeline.specs.Flowing.{HasSameSetting}
use Rattle.pipeline.specs.Running.{StandsForWork, HasRun}
use Rattle.pipeline.proofs.closing.close_some.Given as goal

-- i buckets were closed and processed
abbrev pub invariant-loop-i : goal.invariant-loop-i
invariant-loop-i l = record {
  setting : HasSameSetting l.fn.inputs l.inputs;
  held : l.keeper.keeper.held ≡ Some (at_cursor l.fn.keeper.keeper);
  ports : (x : Inputs) → StandsForInputs l.fn.inputs x → StandsForInputs l.inputs (after_closing_all l.fn.inputs.width l._i x);
  ran : (ops : List OpSpec) → (x : Inputs) → StandsForWork ops l.fn.inputs l.fn.keeper x → CanClose l.fn.inputs.width x l.count
      → HasRun ops l.fn.inputs.width l.keeper.keeper.state (processed_and_closed l.fn.inputs.width x) (buckets_from l.fn.inputs.width x (frontier_of x) l._i) (frontier_of x) l.added.items;
}
