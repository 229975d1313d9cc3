-- How many columns the tuples of a stream have.
use Rattle.std.specs.Prelude.{ℕ, ◌+◌, List, [], ◌∷◌, map, length, None, unwrap_or, is_some, if◌then◌else◌}
use Rattle.dpc_lists.specs.Lists.{nth, push, last_or}
use Rattle.dpc_model.specs.declared.operators.OpKind.{OpKind}
use Rattle.dpc_model.specs.declared.operators.OpKind.TheVariants.{Filter, Map, Union, Join, Aggregate}
use Rattle.dpc_model.specs.declared.operators.OpSpec.{OpSpec}
use Rattle.dpc_model.specs.declared.operators.Wire.{Wire}
use Rattle.dpc_model.specs.declared.operators.Wire.TheVariants.{Port, Op}
use Rattle.dpc_model.specs.declared.plans.FragSpec.{FragSpec}
use Rattle.dpc_model.specs.declared.plans.SourceSpec.{SourceSpec}
use Rattle.dpc_model.specs.declared.plans.Plan.{Plan}
use Rattle.dpc_model.specs.declared.plans.StreamRef.{StreamRef}
use Rattle.dpc_model.specs.declared.plans.StreamRef.TheVariants.{Source, Frag}

-- an operator's output, by those of its inputs
abbrev pub kind_columns : OpKind → List ℕ → ℕ
kind_columns (Filter e) inputs = nth 0 inputs 0
kind_columns (Map es) inputs = length es
kind_columns Union inputs = nth 0 inputs 0
kind_columns (Join within keys) inputs = nth 0 inputs 0 + nth 0 inputs 1
kind_columns (Aggregate size step group aggs) inputs = (if is_some group then 1 else 0) + length aggs

-- what an operator reads, by the columns of the ports and of the operators before it
abbrev pub wire_columns : List ℕ → List ℕ → Wire → ℕ
wire_columns ports outputs (Port p) = nth 0 ports p
wire_columns ports outputs (Op i) = nth 0 outputs i

-- the operators behind those whose columns stand
abbrev pub columns_after : List ℕ → List ℕ → List OpSpec → List ℕ
columns_after ports outputs [] = outputs
columns_after ports outputs (op ∷ ops) =
    columns_after ports (push outputs (kind_columns op.kind (map (wire_columns ports outputs) op.reads))) ops

-- a fragment's output; one without an operator has no column
abbrev pub fragment_columns : List ℕ → List OpSpec → ℕ
fragment_columns ports ops = unwrap_or (last_or None (columns_after ports [] ops)) 0

-- a stream, where the fragments' columns are those listed
abbrev pub columns_by : Plan → List ℕ → StreamRef → ℕ
columns_by plan frags (Source s) = nth 0 (map (λ (source : SourceSpec). source.columns) plan.sources) s
columns_by plan frags (Frag f) = nth 0 frags f

-- the fragments behind those whose columns stand
abbrev pub frags_columns : Plan → List ℕ → List FragSpec → List ℕ
frags_columns plan done [] = done
frags_columns plan done (f ∷ rest) = frags_columns plan (push done (fragment_columns (map (columns_by plan done) f.inputs) f.ops)) rest

abbrev pub stream_columns : Plan → StreamRef → ℕ
stream_columns plan s = columns_by plan (frags_columns plan [] plan.frags) s
