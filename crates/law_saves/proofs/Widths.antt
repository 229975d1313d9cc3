-- Each stream of a checked script, and each operator, has 1 to 8 columns.
use Rattle.std.proofs.Common.{◌≡◌, ℕ, zero, suc, ◌+◌, ◌^◌, ◌<◌, ◌≤◌, Bool, true, not, nat_le, List, [], ◌∷◌, map, length, Option, Some, None, unwrap_or, refl, sym, ap, subst, ◌∙◌, arith, length-append}
use Rattle.dpc_lists.specs.Lists.{nth, push, list_all, last_or, is_nil}
use Rattle.std.proofs.lemmas.List.{length-map}
use Rattle.std.proofs.lemmas.Option.{none-some}
use Rattle.dpc_lists.proofs.Truths.{both, both-of, le-of, le-test, lt-of, eq-of, all-append, true-not-false}
use Rattle.dpc_model.specs.Fragments.{ReadsBelow, ReadBefore}
use Rattle.dpc_model.specs.Columns.{kind_columns, wire_columns, columns_after, fragment_columns, stream_columns}
use Rattle.dpc_model.specs.declared.operators.OpKind.{OpKind}
use Rattle.dpc_model.specs.declared.operators.OpKind.TheVariants.{Filter, Map, Union, Join, Aggregate}
use Rattle.dpc_model.specs.declared.operators.OpSpec.{OpSpec}
use Rattle.dpc_model.specs.declared.operators.Wire.{Wire}
use Rattle.dpc_model.specs.declared.operators.Wire.TheVariants.{Port, Op}
use Rattle.dpc_model.specs.declared.plans.FragSpec.{FragSpec}
use Rattle.dpc_model.specs.declared.plans.SourceSpec.{SourceSpec}
use Rattle.dpc_model.specs.declared.plans.Plan.{Plan}
use Rattle.dpc_model.specs.declared.plans.StreamRef.{StreamRef}
use Rattle.dpc_model.specs.declared.plans.StreamRef.TheVariants.{Source, Frag}
use Rattle.node_model.specs.Nodes.{no_fragment}
use Rattle.script_rules.specs.Places.{is_between}
use Rattle.script_rules.specs.Reasons.{fits_inputs, is_too_large}
use Rattle.script_rules.specs.Checking.{are_inputs_in_range, is_kind_in_range, is_op_in_range, is_frag_in_range, is_source_in_range}
use Rattle.script_rules.specs.Facts.{is_earlier, ops_fit, frag_fits, is_there}
use Rattle.law_safety.specs.Plans.{IsCheckedPlan, IsPlace}
use Rattle.law_safety.proofs.Numbering.{all-nth}
use Rattle.law_safety.proofs.OutFits.{home-fragment}

-- 1 to 8
abbrev pub is_width : ℕ → Bool
is_width c = is_between 1 8 c

least : (c : ℕ) → is_width c ≡ true → 1 ≤ c
least c h = le-of 1 c (both (nat_le 1 c) (nat_le c 8) h).0

-- ---- what an operator reads

wire-width : (ports outputs : List ℕ) (w : Wire) → list_all is_width ports ≡ true → list_all is_width outputs ≡ true
    → is_earlier (length ports) (length outputs) w ≡ true → is_width (wire_columns ports outputs w) ≡ true
wire-width ports outputs (Port p) h k there = all-nth is_width 0 ports p (lt-of p (length ports) there) h
wire-width ports outputs (Op i) h k there = all-nth is_width 0 outputs i (lt-of i (length outputs) there) k

pub reads-width : (ports outputs : List ℕ) (ws : List Wire) → list_all is_width ports ≡ true → list_all is_width outputs ≡ true
    → list_all (is_earlier (length ports) (length outputs)) ws ≡ true → list_all is_width (map (wire_columns ports outputs) ws) ≡ true
reads-width ports outputs [] h k there = refl
reads-width ports outputs (w ∷ ws) h k there =
    let t = both (is_earlier (length ports) (length outputs) w) (list_all (is_earlier (length ports) (length outputs)) ws) there in
    both-of (is_width (wire_columns ports outputs w)) (list_all is_width (map (wire_columns ports outputs) ws))
    (wire-width ports outputs w h k t.0) (reads-width ports outputs ws h k t.1)

-- ---- what an operator gives

first-least : (reads : List ℕ) → 1 ≤ length reads → list_all is_width reads ≡ true → 1 ≤ nth 0 reads 0
first-least [] some h = absurd (omega (arith, some))
first-least (c ∷ cs) some h = least c (both (is_width c) (list_all is_width cs) h).0

kind-least : (plan : Plan) (kind : OpKind) (reads : List ℕ) → are_inputs_in_range kind (length reads) ≡ true → is_kind_in_range plan kind ≡ true
    → list_all is_width reads ≡ true → 1 ≤ kind_columns kind reads
kind-least plan (Filter e) reads few known h = first-least reads (omega (arith, eq-of (length reads) 1 few)) h
kind-least plan (Map es) reads few known h =
    let k = both (is_between 1 8 (length es)) _ known in le-of 1 (length es) (both (nat_le 1 (length es)) (nat_le (length es) 8) k.0).0
kind-least plan Union reads few known h =
    let k = both (nat_le 2 (length reads)) (nat_le (length reads) 8) few in
    let some = le-of 2 (length reads) k.0 in
    first-least reads (omega (arith, some)) h
kind-least plan (Join within keys) reads few known h =
    let some = first-least reads (omega (arith, eq-of (length reads) 2 few)) h in omega (arith, some)
kind-least plan (Aggregate size step group aggs) reads few known h =
    let k = (both _ (is_between 1 8 (length aggs)) (both _ _ known).0).1 in
    let some = le-of 1 (length aggs) (both (nat_le 1 (length aggs)) (nat_le (length aggs) 8) k).0 in
    omega (arith, some)

-- ports and the operators before have such widths, and the operators behind fit them
pub record Stand (plan : Plan) (ports outputs : List ℕ) (ops : List OpSpec) : Type 0 where
  pub ports_have : list_all is_width ports ≡ true
  pub outputs_have : list_all is_width outputs ≡ true
  pub fit : ops_fit ports outputs ops ≡ true
  pub known : list_all (is_op_in_range plan) ops ≡ true

-- the next operator reads what has such a width, and gives it, and the ones behind it fit still
pub record IsNext (plan : Plan) (ports outputs : List ℕ) (op : OpSpec) (ops : List OpSpec) : Type 0 where
  pub reads : list_all is_width (map (wire_columns ports outputs) op.reads) ≡ true
  pub many : are_inputs_in_range op.kind (length (map (wire_columns ports outputs) op.reads)) ≡ true
  pub rest : Stand plan ports (push outputs (kind_columns op.kind (map (wire_columns ports outputs) op.reads))) ops

pub next : (plan : Plan) (ports outputs : List ℕ) (op : OpSpec) (ops : List OpSpec) → Stand plan ports outputs (op ∷ ops) → IsNext plan ports outputs op ops
next plan ports outputs op ops s =
    let reads = map (wire_columns ports outputs) op.reads in
    let c = kind_columns op.kind reads in
    let parts = both _ (ops_fit ports (push outputs c) ops) s.fit in
    let sizes = both _ (not (is_too_large op.kind)) parts.0 in
    let few = both _ (nat_le c 8) sizes.0 in
    let wires = both (list_all (is_earlier (length ports) (length outputs)) op.reads) (fits_inputs op.kind reads) few.0 in
    let ranges = both (is_op_in_range plan op) (list_all (is_op_in_range plan) ops) s.known in
    let kind = both _ (is_kind_in_range plan op.kind) ranges.0 in
    let inputs = both _ (are_inputs_in_range op.kind (length op.reads)) kind.0 in
    let many : are_inputs_in_range op.kind (length reads) ≡ true = ap (are_inputs_in_range op.kind) (length-map op.reads (wire_columns ports outputs)) ∙ inputs.1 in
    let widths = reads-width ports outputs op.reads s.ports_have s.outputs_have wires.0 in
    let some = kind-least plan op.kind reads many kind.1 widths in
    let here : is_width c ≡ true = both-of _ _ (le-test 1 c some) few.1 in
    record {
      reads = widths;
      many = many;
      rest = record { ports_have = s.ports_have; outputs_have = all-append is_width outputs (c ∷ []) s.outputs_have (both-of _ _ here refl); fit = parts.1; known = ranges.1 };
    }

-- so all of them have
pub ops-widths : (plan : Plan) (ports outputs : List ℕ) (ops : List OpSpec) → Stand plan ports outputs ops → list_all is_width (columns_after ports outputs ops) ≡ true
ops-widths plan ports outputs [] s = s.outputs_have
ops-widths plan ports outputs (op ∷ ops) s =
    ops-widths plan ports (push outputs (kind_columns op.kind (map (wire_columns ports outputs) op.reads))) ops (next plan ports outputs op ops s).rest

-- ---- a fragment, and a stream

last-width : (o : Option ℕ) (cs : List ℕ) → (o ≡ None → 0 < length cs) → ((c : ℕ) → o ≡ Some c → is_width c ≡ true) → list_all is_width cs ≡ true
    → is_width (unwrap_or (last_or o cs) 0) ≡ true
last-width None [] some known h = absurd (omega (arith, some refl))
last-width (Some c) [] some known h = known c refl
last-width o (c ∷ cs) some known h =
    let k = both (is_width c) (list_all is_width cs) h in
    last-width (Some c) cs (λ e. absurd (none-some c (sym e))) (λ d e. subst (λ x. is_width x ≡ true) (ap (λ (y : Option ℕ). unwrap_or y 0) e) k.0) k.1

more-after : (ports outputs : List ℕ) (ops : List OpSpec) → length outputs ≤ length (columns_after ports outputs ops)
more-after ports outputs [] = omega arith
more-after ports outputs (op ∷ ops) =
    let c = kind_columns op.kind (map (wire_columns ports outputs) op.reads) in
    let rest = more-after ports (push outputs c) ops in
    let one = length-append outputs (c ∷ []) in
    omega (arith, rest, one)

some-after : (ports : List ℕ) (ops : List OpSpec) → not (is_nil ops) ≡ true → 0 < length (columns_after ports [] ops)
some-after ports [] some = absurd (true-not-false (sym some))
some-after ports (op ∷ ops) some = let more = more-after ports (push [] (kind_columns op.kind (map (wire_columns ports []) op.reads))) ops in omega (arith, more)

-- of a fragment that fits over ports of such widths: its operators, and its stream
pub record HasWidths (plan : Plan) (ports : List ℕ) (f : FragSpec) : Type 0 where
  pub stand : Stand plan ports [] f.ops
  pub stream : is_width (fragment_columns ports f.ops) ≡ true

fragment-widths : (plan : Plan) (f : FragSpec) → list_all is_width (map (stream_columns plan) f.inputs) ≡ true → frag_fits plan f ≡ true → is_frag_in_range plan f ≡ true
    → HasWidths plan (map (stream_columns plan) f.inputs) f
fragment-widths plan f h fit known =
    let ports = map (stream_columns plan) f.inputs in
    let parts = both _ (ops_fit ports [] f.ops) fit in
    let some = both (not (is_nil f.ops)) _ parts.0 in
    let ranges = both _ (list_all (is_op_in_range plan) f.ops) known in
    let stand : Stand plan ports [] f.ops = record { ports_have = h; outputs_have = refl; fit = parts.1; known = ranges.1 } in
    let all = ops-widths plan ports [] f.ops stand in
    record { stand = stand; stream = last-width None (columns_after ports [] f.ops) (λ e. some-after ports f.ops some.0) (λ c e. absurd (none-some c e)) all }

reads-below : (k : ℕ) (frags : List FragSpec) (d : FragSpec) (i : ℕ) → ReadBefore k frags → i < length frags → ReadsBelow (k + i) (nth d frags i).inputs
reads-below k [] d i h l = absurd (omega (arith, l))
reads-below k (f ∷ frags) d zero h l = let same : k + 0 ≡ k = omega arith in rw same h.0
reads-below k (f ∷ frags) d (suc i) h l = let same : k + suc i ≡ k + 1 + i = omega arith in rw same (reads-below (k + 1) frags d i h.1 (omega (arith, l)))

-- what is known of a checked script's plan
pub record IsKnown (plan : Plan) : Type 0 where
  pub checked : IsCheckedPlan plan
  pub frags : list_all (frag_fits plan) plan.frags ≡ true
  pub sources_known : list_all is_source_in_range plan.sources ≡ true
  pub frags_known : list_all (is_frag_in_range plan) plan.frags ≡ true
  pub end : plan.end < 2 ^ 62

place-of : (plan : Plan) (f : ℕ) → IsCheckedPlan plan → f < length plan.frags → IsPlace (record { plan = plan; frag = f; replica = 0 })
place-of plan f c l = record { checked = c.checked; there = l; reads = c.reads f l; sent = c.sent f l }

source-width : (sources : List SourceSpec) (s : ℕ) → s < length sources → list_all is_source_in_range sources ≡ true
    → is_width (nth 0 (map (λ (x : SourceSpec). x.columns) sources) s) ≡ true
source-width [] s l h = absurd (omega (arith, l))
source-width (x ∷ sources) zero l h =
    let k = both (is_source_in_range x) (list_all is_source_in_range sources) h in
    (both _ (is_between 1 8 x.columns) (both _ _ k.0).0).1
source-width (x ∷ sources) (suc s) l h = source-width sources s (omega (arith, l)) (both (is_source_in_range x) (list_all is_source_in_range sources) h).1

frag-widths : (plan : Plan) (f : ℕ) → IsKnown plan → f < length plan.frags → list_all is_width (map (stream_columns plan) (nth no_fragment plan.frags f).inputs) ≡ true
    → HasWidths plan (map (stream_columns plan) (nth no_fragment plan.frags f).inputs) (nth no_fragment plan.frags f)
frag-widths plan f k l h =
    fragment-widths plan (nth no_fragment plan.frags f) h (all-nth (frag_fits plan) no_fragment plan.frags f l k.frags) (all-nth (is_frag_in_range plan) no_fragment plan.frags f l k.frags_known)

streams-there : (plan : Plan) (f : ℕ) → IsKnown plan → f < length plan.frags → list_all (is_there plan) (nth no_fragment plan.frags f).inputs ≡ true
streams-there plan f k l =
    let fit = all-nth (frag_fits plan) no_fragment plan.frags f l k.frags in
    (both _ (list_all (is_there plan) (nth no_fragment plan.frags f).inputs) (both _ _ fit).0).1

source-stream : (plan : Plan) (s : ℕ) → IsKnown plan → is_there plan (Source s) ≡ true → is_width (stream_columns plan (Source s)) ≡ true
source-stream plan s k there = source-width plan.sources s (lt-of s (length plan.sources) there) k.sources_known

-- streams, where the fragments below a number have such widths
each-width : (plan : Plan) (m : ℕ) (xs : List StreamRef) → IsKnown plan → ((g : ℕ) → g < m → g < length plan.frags → is_width (stream_columns plan (Frag g)) ≡ true)
    → ReadsBelow m xs → list_all (is_there plan) xs ≡ true → list_all is_width (map (stream_columns plan) xs) ≡ true
each-width plan m [] k known low there = refl
each-width plan m (Source s ∷ xs) k known low there =
    let t = both (is_there plan (Source s)) (list_all (is_there plan) xs) there in
    both-of (is_width (stream_columns plan (Source s))) _ (source-stream plan s k t.0) (each-width plan m xs k known low t.1)
each-width plan m (Frag g ∷ xs) k known low there =
    let t = both (is_there plan (Frag g)) (list_all (is_there plan) xs) there in
    both-of (is_width (stream_columns plan (Frag g))) _ (known g low.0 (lt-of g (length plan.frags) t.0)) (each-width plan m xs k known low.1 t.1)

frag-ports : (plan : Plan) (f : ℕ) → IsKnown plan → f < length plan.frags → ((g : ℕ) → g < f → g < length plan.frags → is_width (stream_columns plan (Frag g)) ≡ true)
    → list_all is_width (map (stream_columns plan) (nth no_fragment plan.frags f).inputs) ≡ true
frag-ports plan f k l known =
    let same : 0 + f ≡ f = omega arith in
    each-width plan f (nth no_fragment plan.frags f).inputs k known (rw same at (reads-below 0 plan.frags no_fragment f k.checked.checked.sound.inputs l)) (streams-there plan f k l)

frag-stream : (plan : Plan) (n f : ℕ) → IsKnown plan → f < n → f < length plan.frags → is_width (stream_columns plan (Frag f)) ≡ true
frag-stream plan zero f k low l = absurd (omega (arith, low))
frag-stream plan (suc n) f k low l =
    let made = home-fragment (record { plan = plan; frag = f; replica = 0 }) (place-of plan f k.checked l) in
    let ports = frag-ports plan f k l (λ g lower there. frag-stream plan n g k (omega (arith, lower, low)) there) in
    rw made.columns (frag-widths plan f k l ports).stream

-- of a fragment of a checked script: its ports, its operators and its stream
pub record IsNarrow (plan : Plan) (f : ℕ) : Type 0 where
  pub widths : HasWidths plan (map (stream_columns plan) (nth no_fragment plan.frags f).inputs) (nth no_fragment plan.frags f)
  pub stream : is_width (stream_columns plan (Frag f)) ≡ true

pub narrow : (plan : Plan) (f : ℕ) → IsKnown plan → f < length plan.frags → IsNarrow plan f
narrow plan f k l =
    let ports = frag-ports plan f k l (λ g lower there. frag-stream plan f g k lower there) in
    record { widths = frag-widths plan f k l ports; stream = frag-stream plan (f + 1) f k (omega arith) l }
