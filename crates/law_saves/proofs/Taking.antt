-- What an operator of a fragment takes has 1 to 8 columns.
use Rattle.std.proofs.Common.{◌≡◌, ℕ, zero, suc, ◌<◌, true, List, [], ◌∷◌, map, length, take, arith}
use Rattle.dpc_lists.specs.Lists.{nth, push, list_all}
use Rattle.dpc_lists.proofs.Truths.{both}
use Rattle.dpc_model.specs.Columns.{kind_columns, wire_columns}
use Rattle.dpc_model.specs.Engines.{nameless}
use Rattle.dpc_model.specs.Operators.{output_of}
use Rattle.dpc_model.specs.Fragments.{read_wire, outputs_after}
use Rattle.dpc_model.specs.declared.tuples.Tuple.{Tuple}
use Rattle.dpc_model.specs.declared.tuples.Tagged.{Tagged}
use Rattle.dpc_model.specs.declared.operators.OpSpec.{OpSpec}
use Rattle.dpc_model.specs.declared.plans.Plan.{Plan}
use Rattle.world_model.specs.Orderly.{fits_port}
use Rattle.script_rules.specs.Checking.{are_inputs_in_range}
use Rattle.law_safety.specs.Plans.{is_even, are_even_ops}
use Rattle.law_safety.proofs.Columns.{AllColumns, push-columns, output-columns, reads-columns}
use Rattle.law_saves.proofs.Widths.{is_width, Stand, next}

-- the tuples of a fragment's ports, and of the operators before, have their columns, and unions read equal ones
pub record Flow (ports outcols : List ℕ) (ops : List OpSpec) (xs : List Tagged) (outs : List (List Tuple)) : Type 0 where
  pub inputs : list_all (fits_port ports) xs ≡ true
  pub outputs : AllColumns outcols outs
  pub even : are_even_ops ports outcols ops ≡ true

-- what an operator takes has these columns
pub record Takes (op : OpSpec) (xs : List Tagged) (outs : List (List Tuple)) : Type 0 where
  pub columns : List ℕ
  pub widths : list_all is_width columns ≡ true
  pub many : are_inputs_in_range op.kind (length columns) ≡ true
  pub inputs : AllColumns columns (map (read_wire xs outs) op.reads)

pub takes : (plan : Plan) (ports outcols : List ℕ) (ops : List OpSpec) (xs : List Tagged) (outs : List (List Tuple)) (b i : ℕ) (d : OpSpec)
    → i < length ops → Stand plan ports outcols ops → Flow ports outcols ops xs outs
    → Takes (nth d (nameless ops) i) xs (outputs_after outs (take i (nameless ops)) xs b)
takes plan ports outcols [] xs outs b i d l s f = absurd (omega (arith, l))
takes plan ports outcols (op ∷ ops) xs outs b zero d l s f =
    let n = next plan ports outcols op ops s in
    record { columns = map (wire_columns ports outcols) op.reads; widths = n.reads; many = n.many; inputs = reads-columns ports outcols xs outs op.reads f.inputs f.outputs }
takes plan ports outcols (op ∷ ops) xs outs b (suc i) d l s f =
    let reads = map (wire_columns ports outcols) op.reads in
    let ins = map (read_wire xs outs) op.reads in
    let e = both (is_even op.kind reads) (are_even_ops ports (push outcols (kind_columns op.kind reads)) ops) f.even in
    let out = output-columns op.kind reads ins b e.0 (reads-columns ports outcols xs outs op.reads f.inputs f.outputs) in
    takes plan ports (push outcols (kind_columns op.kind reads)) ops xs (push outs (output_of op.kind ins b)) b i d (omega (arith, l)) (next plan ports outcols op ops s).rest
    (record { inputs = f.inputs; outputs = push-columns outcols outs (kind_columns op.kind reads) (output_of op.kind ins b) f.outputs out; even = e.1 })
