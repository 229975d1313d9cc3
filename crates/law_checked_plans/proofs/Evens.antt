-- Operators that fit read equal columns where they are unions.
use Rattle.std.proofs.Common.{◌≡◌, ℕ, ◌+◌, ◌<◌, true, List, [], ◌∷◌, ◌++◌, map, length, refl, sym, ap, subst, ◌∙◌, arith}
use Rattle.std.specs.Prelude.{not, ◌&&◌, nat_le}
use Rattle.std.proofs.lemmas.Bool.{and_parts}
use Rattle.std.proofs.lemmas.List.{length-append}
use Rattle.dpc_lists.specs.Lists.{push, list_all, is_nil}
use Rattle.dpc_model.specs.Fragments.{ReadsBelow, ReadBefore}
use Rattle.dpc_model.specs.Columns.{kind_columns, wire_columns, fragment_columns, columns_by, frags_columns, stream_columns}
use Rattle.dpc_model.specs.declared.operators.OpKind.{OpKind}
use Rattle.dpc_model.specs.declared.operators.OpKind.TheVariants.{Filter, Map, Union, Join, Aggregate}
use Rattle.dpc_model.specs.declared.operators.OpSpec.{OpSpec}
use Rattle.dpc_model.specs.declared.plans.FragSpec.{FragSpec}
use Rattle.dpc_model.specs.declared.plans.Plan.{Plan}
use Rattle.dpc_model.specs.declared.plans.StreamRef.{StreamRef}
use Rattle.dpc_model.specs.declared.plans.StreamRef.TheVariants.{Source, Frag}
use Rattle.script_rules.specs.Reasons.{fits_inputs, is_too_large}
use Rattle.script_rules.specs.Facts.{is_earlier, ops_fit, frag_fits, is_there}
use Rattle.script_rules.proofs.Lasts.{nth-first}
use Rattle.law_safety.specs.Plans.{is_even, are_even_ops, are_even_frags}

kind_even : (kind : OpKind) (inputs : List ℕ) → fits_inputs kind inputs ≡ true → is_even kind inputs ≡ true
kind_even (Filter e) inputs h = refl
kind_even (Map es) inputs h = refl
kind_even Union inputs h = h
kind_even (Join within keys) inputs h = refl
kind_even (Aggregate size step group aggs) inputs h = refl

ops_even : (ports outputs : List ℕ) (ops : List OpSpec) → ops_fit ports outputs ops ≡ true → are_even_ops ports outputs ops ≡ true
ops_even ports outputs [] h = refl
ops_even ports outputs (op ∷ ops) h =
    let reads = map (wire_columns ports outputs) op.reads in
    let next = push outputs (kind_columns op.kind reads) in
    let wires = list_all (is_earlier (length ports) (length outputs)) op.reads in
    let few = nat_le (kind_columns op.kind reads) 8 in
    let parts = and_parts (wires && fits_inputs op.kind reads && few && not (is_too_large op.kind)) (ops_fit ports next ops) h in
    let sizes = and_parts (wires && fits_inputs op.kind reads && few) (not (is_too_large op.kind)) parts.0 in
    let fits = and_parts wires (fits_inputs op.kind reads) (and_parts (wires && fits_inputs op.kind reads) few sizes.0).0 in
    rw (kind_even op.kind reads fits.1, ops_even ports next ops parts.1) refl

-- further fragments leave the columns of streams before them
stay : (plan : Plan) (columns : List ℕ) (fs : List FragSpec) (s : StreamRef) → ReadsBelow (length columns) (s ∷ []) → columns_by plan (frags_columns plan columns fs) s ≡ columns_by plan columns s
stay plan columns fs (Source s) h = refl
stay plan columns [] (Frag g) h = refl
stay plan columns (f ∷ fs) (Frag g) h =
    let c : ℕ = fragment_columns (map (columns_by plan columns) f.inputs) f.ops in
    let low : g < length columns = h.0 in
    let more : length (columns ++ c ∷ []) ≡ length columns + 1 = length-append columns (c ∷ []) in
    let lower : g < length (columns ++ c ∷ []) = omega (arith, low, more) in
    stay plan (columns ++ c ∷ []) fs (Frag g) (lower, tt) ∙ nth-first 0 columns (c ∷ []) g low

reads_stay : (plan : Plan) (columns : List ℕ) (fs : List FragSpec) (ss : List StreamRef) → ReadsBelow (length columns) ss → map (columns_by plan (frags_columns plan columns fs)) ss ≡ map (columns_by plan columns) ss
reads_stay plan columns fs [] h = refl
reads_stay plan columns fs (Source s ∷ ss) h = ap (λ cs. columns_by plan columns (Source s) ∷ cs) (reads_stay plan columns fs ss h)
reads_stay plan columns fs (Frag g ∷ ss) h = rw (stay plan columns fs (Frag g) (h.0, tt), reads_stay plan columns fs ss h.1) refl

pub frags_even : (plan : Plan) (columns : List ℕ) (fs : List FragSpec) → frags_columns plan [] plan.frags ≡ frags_columns plan columns fs →
    (k : ℕ) → length columns ≡ k → ReadBefore k fs → list_all (frag_fits plan) fs ≡ true → are_even_frags plan columns fs ≡ true
frags_even plan columns [] whole k count reads h = refl
frags_even plan columns (f ∷ fs) whole k count reads h =
    let ports = map (columns_by plan columns) f.inputs in
    let c : ℕ = fragment_columns ports f.ops in
    let more : length (columns ++ c ∷ []) ≡ length columns + 1 = length-append columns (c ∷ []) in
    let below : ReadsBelow (length columns) f.inputs = subst (λ m. ReadsBelow m f.inputs) (sym count) reads.0 in
    let same : map (stream_columns plan) f.inputs ≡ ports = ap (λ cs. map (columns_by plan cs) f.inputs) whole ∙ reads_stay plan columns (f ∷ fs) f.inputs below in
    let parts = and_parts (frag_fits plan f) (list_all (frag_fits plan) fs) h in
    let fits = (and_parts (not (is_nil f.ops) && list_all (is_there plan) f.inputs) (ops_fit (map (stream_columns plan) f.inputs) [] f.ops) parts.0).1 in
    let here : are_even_ops ports [] f.ops ≡ true = ops_even ports [] f.ops (subst (λ l. ops_fit l [] f.ops ≡ true) same fits) in
    rw (here, frags_even plan (columns ++ c ∷ []) fs whole (k + 1) (omega (arith, more, count)) reads.1 parts.1) refl
