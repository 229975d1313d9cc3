-- Fragments whose operators fit the columns of what they read, each by those before it.
use Rattle.std.proofs.Common.{◌≡◌, ℕ, zero, suc, ◌+◌, ◌-◌, ◌<◌, Bool, true, false, List, [], ◌∷◌, ◌++◌, map, length, Option, Some, None, refl, sym, ap, subst, ◌∙◌, arith}
use Rattle.std.specs.Prelude.{⊤, not, ◌&&◌, ◌||◌, nat_lt, nat_le, is_none, unwrap_or, option_map}
use Rattle.std.proofs.lemmas.Bool.{and_parts, or_parts, not-false, ltb-true, lt-ltb, ltb-false, le-leb}
use Rattle.std.proofs.lemmas.List.{length-append, length-map}
use Rattle.dpc_lists.specs.Lists.{nth, push, changed, list_all, list_any, last_or}
use Rattle.dpc_model.specs.Words.{Word}
use Rattle.dpc_model.specs.Columns.{kind_columns, wire_columns, columns_after, fragment_columns, columns_by, frags_columns, stream_columns}
use Rattle.dpc_model.specs.ScriptText.{stream_name}
use Rattle.dpc_model.specs.declared.operators.Wire.{Wire}
use Rattle.dpc_model.specs.declared.operators.Wire.TheVariants.{Port, Op}
use Rattle.dpc_model.specs.declared.operators.OpKind.{OpKind}
use Rattle.dpc_model.specs.declared.operators.OpSpec.{OpSpec}
use Rattle.dpc_model.specs.declared.plans.SourceSpec.{SourceSpec}
use Rattle.dpc_model.specs.declared.plans.FragSpec.{FragSpec}
use Rattle.dpc_model.specs.declared.plans.Plan.{Plan}
use Rattle.dpc_model.specs.declared.plans.StreamRef.{StreamRef}
use Rattle.dpc_model.specs.declared.plans.StreamRef.TheVariants.{Source, Frag}
use Rattle.dpc_lists.proofs.Elements.{map-same}
use Rattle.script_rules.specs.Statements.{OperatorLine}
use Rattle.script_rules.specs.Drafts.{Draft, and_then, plan_of, place_of_name, or_else, op_names, last_frag, with_op, with_delay, change_last}
use Rattle.script_rules.specs.Reasons.{fits_inputs, is_too_large, input_columns, is_full}
use Rattle.script_rules.specs.Facts.{is_earlier, ops_fit}
use Rattle.script_rules.proofs.Passing.{IsFine}
use Rattle.script_rules.proofs.Lasts.{changed-last, nth-first}
use Rattle.script_rules.proofs.Streams.{is_within}
use Rattle.script_rules.proofs.Inputs.{EachReads}
use Rattle.script_rules.proofs.Found.{IsPlaceOf, place_is}

-- ---- columns, by those of the sources and of the fragments before

abbrev pub columns_in : List ℕ → List ℕ → StreamRef → ℕ
columns_in sources frags (Source s) = nth 0 sources s
columns_in sources frags (Frag f) = nth 0 frags f

abbrev pub columns_of : List SourceSpec → List ℕ
columns_of sources = map (λ (source : SourceSpec). source.columns) sources

abbrev pub ports_in : List ℕ → List ℕ → FragSpec → List ℕ
ports_in sources frags f = map (columns_in sources frags) f.inputs

-- those of further fragments, behind those that stand
abbrev pub columns_behind : List ℕ → List ℕ → List FragSpec → List ℕ
columns_behind sources columns [] = columns
columns_behind sources columns (f ∷ fs) = columns_behind sources (push columns (fragment_columns (ports_in sources columns f) f.ops)) fs

-- all operators fit, where those columns stand
abbrev pub FragsFit : List ℕ → List ℕ → List FragSpec → Type 0
FragsFit sources columns [] = ⊤
FragsFit sources columns (f ∷ fs) =
    (ops_fit (ports_in sources columns f) [] f.ops ≡ true) × FragsFit sources (push columns (fragment_columns (ports_in sources columns f) f.ops)) fs

same_columns : (plan : Plan) (columns : List ℕ) (s : StreamRef) → columns_by plan columns s ≡ columns_in (columns_of plan.sources) columns s
same_columns plan columns (Source s) = refl
same_columns plan columns (Frag f) = refl

pub all_columns : (plan : Plan) (columns : List ℕ) (fs : List FragSpec) → frags_columns plan columns fs ≡ columns_behind (columns_of plan.sources) columns fs
all_columns plan columns [] = refl
all_columns plan columns (f ∷ fs) =
    ap (λ ports. frags_columns plan (push columns (fragment_columns ports f.ops)) fs) (map-same (columns_by plan columns) (columns_in (columns_of plan.sources) columns) f.inputs (same_columns plan columns))
    ∙ all_columns plan (push columns (fragment_columns (ports_in (columns_of plan.sources) columns f) f.ops)) fs

behind-append : (sources columns : List ℕ) (a b : List FragSpec) → columns_behind sources columns (a ++ b) ≡ columns_behind sources (columns_behind sources columns a) b
behind-append sources columns [] b = refl
behind-append sources columns (f ∷ a) b = behind-append sources (push columns (fragment_columns (ports_in sources columns f) f.ops)) a b

behind-length : (sources columns : List ℕ) (fs : List FragSpec) → length (columns_behind sources columns fs) ≡ length columns + length fs
behind-length sources columns [] = omega arith
behind-length sources columns (f ∷ fs) =
    let c : ℕ = fragment_columns (ports_in sources columns f) f.ops in
    let rest = behind-length sources (push columns c) fs in
    let more : length (columns ++ c ∷ []) ≡ length columns + 1 = length-append columns (c ∷ []) in
    omega (arith, rest, more)

-- further fragments leave the columns of streams before them
stay : (sources columns : List ℕ) (n : ℕ) (fs : List FragSpec) (s : StreamRef) → is_within n (length columns) s ≡ true → columns_in sources (columns_behind sources columns fs) s ≡ columns_in sources columns s
stay sources columns n fs (Source s) h = refl
stay sources columns n [] (Frag g) h = refl
stay sources columns n (f ∷ fs) (Frag g) h =
    let c : ℕ = fragment_columns (ports_in sources columns f) f.ops in
    let low : g < length columns = ltb-true g (length columns) h in
    let more : length (columns ++ c ∷ []) ≡ length columns + 1 = length-append columns (c ∷ []) in
    stay sources (columns ++ c ∷ []) n fs (Frag g) (lt-ltb g (length (columns ++ c ∷ [])) (omega (arith, low, more))) ∙ nth-first 0 columns (c ∷ []) g low

-- the columns of a stream before the fragments behind `done`
stream_columns_are : (plan : Plan) (done rest : List FragSpec) (n : ℕ) (s : StreamRef) → plan.frags ≡ done ++ rest → is_within n (length done) s ≡ true →
    stream_columns plan s ≡ columns_in (columns_of plan.sources) (columns_behind (columns_of plan.sources) [] done) s
stream_columns_are plan done rest n s parts within =
    let sources = columns_of plan.sources in
    let many : length (columns_behind sources [] done) ≡ 0 + length done = behind-length sources [] done in
    let same : length done ≡ length (columns_behind sources [] done) = omega (arith, many) in
    same_columns plan (frags_columns plan [] plan.frags) s ∙ ap (λ columns. columns_in sources columns s) (all_columns plan [] plan.frags)
    ∙ ap (λ fs. columns_in sources (columns_behind sources [] fs) s) parts ∙ ap (λ columns. columns_in sources columns s) (behind-append sources [] done rest)
    ∙ stay sources (columns_behind sources [] done) n rest s (subst (λ m. is_within n m s ≡ true) same within)

pub ports_are : (plan : Plan) (done rest : List FragSpec) (n : ℕ) (ss : List StreamRef) → plan.frags ≡ done ++ rest → list_all (is_within n (length done)) ss ≡ true →
    map (stream_columns plan) ss ≡ map (columns_in (columns_of plan.sources) (columns_behind (columns_of plan.sources) [] done)) ss
ports_are plan done rest n [] parts within = refl
ports_are plan done rest n (s ∷ ss) parts within =
    let p = and_parts (is_within n (length done) s) (list_all (is_within n (length done)) ss) within in
    rw (stream_columns_are plan done rest n s parts p.0, ports_are plan done rest n ss parts p.1) refl

-- ---- the last fragment

pub fits-split : (sources columns : List ℕ) (done : List FragSpec) (f : FragSpec) → FragsFit sources columns (done ++ f ∷ []) →
    FragsFit sources columns done × (ops_fit (ports_in sources (columns_behind sources columns done) f) [] f.ops ≡ true)
fits-split sources columns [] f h = (tt, h.0)
fits-split sources columns (g ∷ done) f h = let p = fits-split sources (push columns (fragment_columns (ports_in sources columns g) g.ops)) done f h.1 in ((h.0, p.0), p.1)

pub fits-join : (sources columns : List ℕ) (done : List FragSpec) (f : FragSpec) → FragsFit sources columns done → ops_fit (ports_in sources (columns_behind sources columns done) f) [] f.ops ≡ true →
    FragsFit sources columns (done ++ f ∷ [])
fits-join sources columns [] f h k = (k, tt)
fits-join sources columns (g ∷ done) f h k = (h.0, fits-join sources (push columns (fragment_columns (ports_in sources columns g) g.ops)) done f h.1 k)

pub fits-delay : (sources columns : List ℕ) (i delay : ℕ) (fs : List FragSpec) → FragsFit sources columns fs → FragsFit sources columns (changed i (with_delay delay) fs)
fits-delay sources columns i delay [] h = tt
fits-delay sources columns zero delay (f ∷ fs) h = h
fits-delay sources columns (suc i) delay (f ∷ fs) h = (h.0, fits-delay sources (push columns (fragment_columns (ports_in sources columns f) f.ops)) i delay fs h.1)

-- an operator fits behind those whose columns stand
abbrev pub op_fits : List ℕ → List ℕ → OpSpec → Bool
op_fits ports outputs op =
    list_all (is_earlier (length ports) (length outputs)) op.reads && fits_inputs op.kind (map (wire_columns ports outputs) op.reads)
    && nat_le (kind_columns op.kind (map (wire_columns ports outputs) op.reads)) 8 && not (is_too_large op.kind)

ops_fit-push : (ports outputs : List ℕ) (ops : List OpSpec) (op : OpSpec) → ops_fit ports outputs ops ≡ true → op_fits ports (columns_after ports outputs ops) op ≡ true → ops_fit ports outputs (ops ++ op ∷ []) ≡ true
ops_fit-push ports outputs [] op h k = rw k refl
ops_fit-push ports outputs (x ∷ ops) op h k =
    let next = push outputs (kind_columns x.kind (map (wire_columns ports outputs) x.reads)) in
    let p = and_parts (op_fits ports outputs x) (ops_fit ports next ops) h in
    rw (p.0, ops_fit-push ports next ops op p.1 k) refl

-- ---- an operator's line

-- what an operator of this fragment may read by a name
abbrev pub wire_of : Plan → FragSpec → Word → Option Wire
wire_of plan f w = or_else (option_map Port (place_of_name w (map (stream_name plan) f.inputs))) (option_map Op (place_of_name w (op_names f)))

abbrev reads_of : Plan → FragSpec → List Word → List Wire
reads_of plan f inputs = map (λ w. unwrap_or (wire_of plan f w) (Port 0)) inputs

abbrev IsWire : ℕ → ℕ → Option Wire → Type 0
IsWire ports ops None = ⊤
IsWire ports ops (Some wire) = is_earlier ports ops wire ≡ true

either_wire : (w : Word) (a b : List Word) (o p : Option ℕ) → IsPlaceOf w a o → IsPlaceOf w b p → IsWire (length a) (length b) (or_else (option_map Port o) (option_map Op p))
either_wire w a b (Some s) p h k = lt-ltb s (length a) h.0
either_wire w a b None (Some f) h k = lt-ltb f (length b) k.0
either_wire w a b None None h k = tt

wire_or_lost : (ports ops : ℕ) (o : Option Wire) → is_none o ≡ false → IsWire ports ops o → is_earlier ports ops (unwrap_or o (Port 0)) ≡ true
wire_or_lost ports ops None known h = absurd cc
wire_or_lost ports ops (Some wire) known h = h

wires_earlier : (plan : Plan) (f : FragSpec) (inputs : List Word) → list_any (λ w. is_none (wire_of plan f w)) inputs ≡ false →
    list_all (is_earlier (length (map (stream_name plan) f.inputs)) (length (op_names f))) (reads_of plan f inputs) ≡ true
wires_earlier plan f [] known = refl
wires_earlier plan f (w ∷ inputs) known =
    let a = map (stream_name plan) f.inputs in
    let b = op_names f in
    let p = or_parts (is_none (wire_of plan f w)) (list_any (λ v. is_none (wire_of plan f v)) inputs) known in
    let here : is_earlier (length a) (length b) (unwrap_or (wire_of plan f w) (Port 0)) ≡ true =
    wire_or_lost (length a) (length b) (wire_of plan f w) p.0 (either_wire w a b (place_of_name w a) (place_of_name w b) (place_is w a) (place_is w b)) in
    rw (here, wires_earlier plan f inputs p.1) refl

mapped : (g : Wire → ℕ) (o : Option Wire) → is_none o ≡ false → unwrap_or (option_map g o) 0 ≡ g (unwrap_or o (Port 0))
mapped g None known = absurd cc
mapped g (Some wire) known = refl

wires_mapped : (plan : Plan) (f : FragSpec) (g : Wire → ℕ) (inputs : List Word) → list_any (λ w. is_none (wire_of plan f w)) inputs ≡ false →
    map (λ w. unwrap_or (option_map g (wire_of plan f w)) 0) inputs ≡ map g (reads_of plan f inputs)
wires_mapped plan f g [] known = refl
wires_mapped plan f g (w ∷ inputs) known =
    let p = or_parts (is_none (wire_of plan f w)) (list_any (λ v. is_none (wire_of plan f v)) inputs) known in
    rw (mapped g (wire_of plan f w) p.0, wires_mapped plan f g inputs p.1) refl

after-length : (ports outputs : List ℕ) (ops : List OpSpec) → length (columns_after ports outputs ops) ≡ length outputs + length ops
after-length ports outputs [] = omega arith
after-length ports outputs (op ∷ ops) =
    let c = kind_columns op.kind (map (wire_columns ports outputs) op.reads) in
    let rest = after-length ports (push outputs c) ops in
    let more : length (outputs ++ c ∷ []) ≡ length outputs + 1 = length-append outputs (c ∷ []) in
    omega (arith, rest, more)

-- an operator that a line names fits
operator_test : (plan : Plan) (f : FragSpec) (op : OpSpec) (inputs : List Word) → op.reads ≡ reads_of plan f inputs → list_any (λ w. is_none (wire_of plan f w)) inputs ≡ false →
    (columns : List ℕ) → columns ≡ map (λ w. unwrap_or (option_map (wire_columns (map (stream_columns plan) f.inputs) (columns_after (map (stream_columns plan) f.inputs) [] f.ops)) (wire_of plan f w)) 0) inputs →
    (not (fits_inputs op.kind columns) || nat_lt 8 (kind_columns op.kind columns)) ≡ false → is_too_large op.kind ≡ false →
    op_fits (map (stream_columns plan) f.inputs) (columns_after (map (stream_columns plan) f.inputs) [] f.ops) op ≡ true
operator_test plan f op inputs reads known columns are fit small =
    let ports = map (stream_columns plan) f.inputs in
    let outputs = columns_after ports [] f.ops in
    let same : columns ≡ map (wire_columns ports outputs) op.reads = are ∙ wires_mapped plan f (wire_columns ports outputs) inputs known ∙ ap (map (wire_columns ports outputs)) (sym reads) in
    let p = or_parts (not (fits_inputs op.kind columns)) (nat_lt 8 (kind_columns op.kind columns)) fit in
    let fitting : fits_inputs op.kind (map (wire_columns ports outputs) op.reads) ≡ true = ap (fits_inputs op.kind) (sym same) ∙ not-false (fits_inputs op.kind columns) p.0 in
    let few : nat_le (kind_columns op.kind (map (wire_columns ports outputs) op.reads)) 8 ≡ true =
    ap (λ l. nat_le (kind_columns op.kind l) 8) (sym same) ∙ le-leb (kind_columns op.kind columns) 8 (ltb-false 8 (kind_columns op.kind columns) p.1) in
    let names_of_ports : length (map (stream_name plan) f.inputs) ≡ length f.inputs = length-map f.inputs (stream_name plan) in
    let many_ports : length ports ≡ length f.inputs = length-map f.inputs (stream_columns plan) in
    let names_of_ops : length (op_names f) ≡ length f.ops = length-map f.ops (λ (o : OpSpec). o.name) in
    let many_outputs : length outputs ≡ 0 + length f.ops = after-length ports [] f.ops in
    let same_ports : length (map (stream_name plan) f.inputs) ≡ length ports = omega (arith, names_of_ports, many_ports) in
    let same_ops : length (op_names f) ≡ length outputs = omega (arith, names_of_ops, many_outputs) in
    let earlier : list_all (is_earlier (length ports) (length outputs)) op.reads ≡ true =
    ap (list_all (is_earlier (length ports) (length outputs))) reads
    ∙ subst (λ m. list_all (is_earlier m (length outputs)) (reads_of plan f inputs) ≡ true) same_ports (subst (λ n. list_all (is_earlier (length (map (stream_name plan) f.inputs)) n) (reads_of plan f inputs) ≡ true) same_ops (wires_earlier plan f inputs known)) in
    rw (earlier, fitting, few, small) refl

last_is : (o : Option FragSpec) (done : List FragSpec) (f : FragSpec) → last_or o (done ++ f ∷ []) ≡ Some f
last_is o [] f = refl
last_is o (g ∷ done) f = last_is (Some g) done f

-- a draft whose last fragment is this one
abbrev pub ending_in : Draft → List FragSpec → FragSpec → Draft
ending_in d done f = record d { frags = done ++ f ∷ [] }

pub last_one : (d : Draft) (done : List FragSpec) (f : FragSpec) → last_frag (ending_in d done f) ≡ f
last_one d done f = ap (λ o. unwrap_or o (record { name = []; replicas = 0; delay = None; inputs = []; ops = [] })) (last_is None done f)

pub change-last : (g : FragSpec → FragSpec) (done : List FragSpec) (f : FragSpec) → change_last g (done ++ f ∷ []) ≡ done ++ g f ∷ []
change-last g done f =
    let many : length (done ++ f ∷ []) ≡ length done + 1 = length-append done (f ∷ []) in
    let less : length (done ++ f ∷ []) - 1 ≡ length done = omega (arith, many) in
    ap (λ i. changed i g (done ++ f ∷ [])) less ∙ changed-last g done f

reads_at_last : (n m : ℕ) (done : List FragSpec) (f : FragSpec) → EachReads n m (done ++ f ∷ []) → list_all (is_within n (m + length done)) f.inputs ≡ true
reads_at_last n m [] f h = let same : m ≡ m + 0 = omega arith in subst (λ k. list_all (is_within n k) f.inputs ≡ true) same h.0
reads_at_last n m (g ∷ done) f h =
    let same : (m + 1) + length done ≡ m + suc (length done) = omega arith in
    subst (λ k. list_all (is_within n k) f.inputs ≡ true) same (reads_at_last n (m + 1) done f h.1)

-- a further operator of the last fragment fits
pub operator_fits : (d : Draft) (done : List FragSpec) (f : FragSpec) (name : Word) (inputs : List Word) (kind : OpKind) → EachReads (length d.sources) 0 (done ++ f ∷ []) →
    IsFine (ending_in d done f) (OperatorLine name inputs kind) → FragsFit (columns_of d.sources) [] (done ++ f ∷ []) →
    FragsFit (columns_of d.sources) [] (and_then (ending_in d done f) (OperatorLine name inputs kind)).frags
operator_fits d done f name inputs kind reads fine h =
    let e = ending_in d done f in
    let plan = plan_of e in
    let sources = columns_of d.sources in
    let before = columns_behind sources [] done in
    let op : OpSpec = record { name = name; kind = kind; reads = reads_of plan (last_frag e) inputs } in
    let limits = or_parts (is_full 16 (last_frag e).ops) (is_too_large kind) fine.limit in
    let test = operator_test plan (last_frag e) op inputs refl fine.known (input_columns e inputs) refl fine.columns limits.1 in
    let here : op_fits (map (stream_columns plan) f.inputs) (columns_after (map (stream_columns plan) f.inputs) [] f.ops) op ≡ true =
    subst (λ (g : FragSpec). op_fits (map (stream_columns plan) g.inputs) (columns_after (map (stream_columns plan) g.inputs) [] g.ops) op ≡ true) (last_one d done f) test in
    let behind : 0 + length done ≡ length done = omega arith in
    let within : list_all (is_within (length d.sources) (length done)) f.inputs ≡ true = subst (λ k. list_all (is_within (length d.sources) k) f.inputs ≡ true) behind (reads_at_last (length d.sources) 0 done f reads) in
    let ports : map (stream_columns plan) f.inputs ≡ ports_in sources before f = ports_are plan done (f ∷ []) (length d.sources) f.inputs refl within in
    let fits : op_fits (ports_in sources before f) (columns_after (ports_in sources before f) [] f.ops) op ≡ true = subst (λ l. op_fits l (columns_after l [] f.ops) op ≡ true) ports here in
    let p = fits-split sources [] done f h in
    subst (FragsFit sources []) (sym (change-last (with_op op) done f)) (fits-join sources [] done (with_op op f) p.0 (ops_fit-push (ports_in sources before f) [] f.ops op p.1 fits))

-- ---- all fragments of a plan

pub all_fit : (plan : Plan) (columns : List ℕ) (fs : List FragSpec) → frags_columns plan [] plan.frags ≡ columns_behind (columns_of plan.sources) columns fs →
    (n k : ℕ) → length columns ≡ k → EachReads n k fs → FragsFit (columns_of plan.sources) columns fs → list_all (λ (f : FragSpec). ops_fit (map (stream_columns plan) f.inputs) [] f.ops) fs ≡ true
all_fit plan columns [] whole n k count reads h = refl
all_fit plan columns (f ∷ fs) whole n k count reads h =
    let sources = columns_of plan.sources in
    let c : ℕ = fragment_columns (ports_in sources columns f) f.ops in
    let more : length (columns ++ c ∷ []) ≡ length columns + 1 = length-append columns (c ∷ []) in
    let ports : map (stream_columns plan) f.inputs ≡ ports_in sources columns f = at f.inputs (subst (λ m. list_all (is_within n m) f.inputs ≡ true) (sym count) reads.0) in
    let here : ops_fit (map (stream_columns plan) f.inputs) [] f.ops ≡ true = ap (λ l. ops_fit l [] f.ops) ports ∙ h.0 in
    rw (here, all_fit plan (columns ++ c ∷ []) fs whole n (k + 1) (omega (arith, more, count)) reads.1 h.1) refl
  where
    at : (ss : List StreamRef) → list_all (is_within n (length columns)) ss ≡ true → map (stream_columns plan) ss ≡ map (columns_in (columns_of plan.sources) columns) ss
    at [] within = refl
    at (s ∷ ss) within =
        let p = and_parts (is_within n (length columns) s) (list_all (is_within n (length columns)) ss) within in
        let here : stream_columns plan s ≡ columns_in (columns_of plan.sources) columns s =
        same_columns plan (frags_columns plan [] plan.frags) s ∙ ap (λ l. columns_in (columns_of plan.sources) l s) whole ∙ stay (columns_of plan.sources) columns n (f ∷ fs) s p.0 in
        rw (here, at ss p.1) refl
