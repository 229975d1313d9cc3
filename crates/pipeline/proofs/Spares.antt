-- A spare mill serves whatever the data path stands for.
use Rattle.std.proofs.Common.{List, sym, ◌∙◌}
use Rattle.dpc_model.specs.Parts.{Inputs, Outputs}
use Rattle.dpc_model.specs.declared.operators.OpSpec.{OpSpec}
use Rattle.fragment_mill.specs.Mills.{MillState}
use Rattle.pipeline.specs.Flowing.{PipelineValue, IsMillOf, StandsForData}

-- an unspent mill of the operators that a data path stands for is one of all operators that it stands for
pub spare-serves : (ops : List OpSpec) (v : PipelineValue) (x : Inputs) (o : Outputs) (spare : MillState) → StandsForData ops v x o → IsMillOf ops v.union.width spare →
    (others : List OpSpec) (y : Inputs) (p : Outputs) → StandsForData others v y p → IsMillOf others v.union.width spare
spare-serves ops v x o spare stands mill others y p h = record {
  operators = mill.operators ∙ sym stands.state.operators ∙ h.state.operators;
  wide = mill.wide;
  unspent = mill.unspent;
}
