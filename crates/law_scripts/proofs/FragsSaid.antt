-- How fragments and operators add to what is said so far.
use Rattle.std.proofs.Common.{◌≡◌, ℕ, ◌≤◌, Bool, true, false, List, [], ◌∷◌, ◌++◌, map, length, Option, Some, None, refl, sym, ap, subst, ◌∙◌, arith}
use Rattle.std.specs.Prelude.{⊤, ◌&&◌, flat_map, is_none, unwrap_or, option_map}
use Rattle.std.proofs.lemmas.Bool.{and_parts, or_parts, ltb-true}
use Rattle.std.proofs.lemmas.List.{append_assoc, map-append, length-map}
use Rattle.dpc_lists.specs.Lists.{is_nil, list_all, list_any}
use Rattle.dpc_model.specs.Words.{Word}
use Rattle.dpc_model.specs.ScriptText.{stream_name}
use Rattle.dpc_model.specs.declared.operators.Wire.{Wire}
use Rattle.dpc_model.specs.declared.operators.Wire.TheVariants.{Port, Op}
use Rattle.dpc_model.specs.declared.operators.OpKind.{OpKind}
use Rattle.dpc_model.specs.declared.operators.OpSpec.{OpSpec}
use Rattle.dpc_model.specs.declared.plans.SourceSpec.{SourceSpec}
use Rattle.dpc_model.specs.declared.plans.FragSpec.{FragSpec}
use Rattle.dpc_model.specs.declared.plans.StreamRef.{StreamRef}
use Rattle.dpc_model.specs.declared.plans.StreamRef.TheVariants.{Source, Frag}
use Rattle.script_rules.specs.Statements.{Statement, FragmentLine, PatienceLine, OperatorLine}
use Rattle.script_rules.specs.Drafts.{Draft, plan_of, source_names, frag_names, op_names, place_of_name, or_else, last_frag, wire_named, change_last, with_delay, with_op}
use Rattle.script_rules.specs.Checking.{source_statements, patience_statements}
use Rattle.script_rules.specs.Facts.{ops_fit}
use Rattle.script_rules.specs.Laws.{is_named_wire}
use Rattle.script_rules.proofs.Called.{named}
use Rattle.script_rules.proofs.Lasts.{nth-first}
use Rattle.script_rules.proofs.Streams.{name_at, stream_at, is_within}
use Rattle.script_rules.proofs.Recalled.{wire_at, wire_name}
use Rattle.script_rules.proofs.Found.{IsPlaceOf, place_is, found, found_is}
use Rattle.script_rules.proofs.Fitting.{FragsFit, columns_of, columns_behind, ports_in, columns_in, fits-split, last_one, change-last}
use Rattle.script_rules.proofs.Headers.{declared}
use Rattle.law_scripts.proofs.Checked.{ops_named}
use Rattle.law_scripts.proofs.SaidSoFar.{op_said, frag_said_at, frag_said, heads, said_then, Grows, flat-push, map-push, split}

-- ---- names, with further fragments

-- all streams that are read are there
abbrev pub are_within : ℕ → ℕ → List FragSpec → Bool
are_within n m fs = list_all (λ (f : FragSpec). list_all (is_within n m) f.inputs) fs

name_before : (sources frags more : List Word) (n m : ℕ) (s : StreamRef) → m ≤ length frags → is_within n m s ≡ true → name_at sources (frags ++ more) s ≡ name_at sources frags s
name_before sources frags more n m (Source s) few h = refl
name_before sources frags more n m (Frag f) few h = let low = ltb-true f m h in nth-first [] frags more f (omega (arith, low, few))

names_before : (sources frags more : List Word) (n m : ℕ) (ss : List StreamRef) → m ≤ length frags → list_all (is_within n m) ss ≡ true → map (name_at sources (frags ++ more)) ss ≡ map (name_at sources frags) ss
names_before sources frags more n m [] few h = refl
names_before sources frags more n m (s ∷ ss) few h =
    let p = and_parts (is_within n m s) (list_all (is_within n m) ss) h in
    rw (name_before sources frags more n m s few p.0, names_before sources frags more n m ss few p.1) refl

frags_before : (sources frags more : List Word) (n m : ℕ) (fs : List FragSpec) → m ≤ length frags → are_within n m fs ≡ true → flat_map (frag_said sources (frags ++ more)) fs ≡ flat_map (frag_said sources frags) fs
frags_before sources frags more n m [] few h = refl
frags_before sources frags more n m (f ∷ fs) few h =
    let p = and_parts (list_all (is_within n m) f.inputs) (are_within n m fs) h in
    ap (λ ports. frag_said_at ports f ++ flat_map (frag_said sources (frags ++ more)) fs) (names_before sources frags more n m f.inputs few p.0)
    ∙ ap (λ l. frag_said sources frags f ++ l) (frags_before sources frags more n m fs few p.1)

-- ---- a fragment

found_again : (sources frags more ws : List Word) → list_any (λ w. is_none (stream_at sources frags w)) ws ≡ false → map (name_at sources (frags ++ more)) (map (found sources frags) ws) ≡ ws
found_again sources frags more [] known = refl
found_again sources frags more (w ∷ ws) known =
    let p = or_parts (is_none (stream_at sources frags w)) (list_any (λ v. is_none (stream_at sources frags v)) ws) known in
    let is = found_is w sources frags p.0 in
    rw (name_before sources frags more (length sources) (length frags) (found sources frags w) (omega arith) is.0 ∙ is.1, found_again sources frags more ws p.1) refl

pub fragment_grows : (h : List ℕ) (ss : List SourceSpec) (fs : List FragSpec) (name : Word) (replicas : ℕ) (streams : List Word) → are_within (length ss) (length fs) fs ≡ true →
    list_any (λ w. is_none (stream_at (source_names (declared h ss fs [])) (named fs) w)) streams ≡ false → Grows (declared h ss fs []) (FragmentLine name replicas streams)
fragment_grows h ss fs name replicas streams within known rest =
    let sources : List Word = source_names (declared h ss fs []) in
    let frags : List Word = named fs in
    let f : FragSpec = record { name = name; replicas = replicas; delay = None; inputs = map (found sources frags) streams; ops = [] } in
    let more : named (fs ++ f ∷ []) ≡ frags ++ name ∷ [] = map-append (λ (g : FragSpec). g.name) fs (f ∷ []) in
    let many : length frags ≡ length fs = length-map fs (λ (g : FragSpec). g.name) in
    let old : flat_map (frag_said sources (frags ++ name ∷ [])) fs ≡ flat_map (frag_said sources frags) fs = frags_before sources frags (name ∷ []) (length ss) (length fs) fs (omega (arith, many)) within in
    ap (λ l. heads 0 h ++ (flat_map source_statements ss ++ l))
    (ap (λ ws. flat_map (frag_said sources ws) (fs ++ f ∷ []) ++ rest) more ∙ flat-push (frag_said sources (frags ++ name ∷ [])) fs f rest
    ∙ ap (λ l. l ++ (frag_said sources (frags ++ name ∷ []) f ++ rest)) old ∙ ap (λ ports. flat_map (frag_said sources frags) fs ++ (FragmentLine name replicas ports ∷ rest)) (found_again sources frags (name ∷ []) streams known))

-- ---- the last fragment, changed

-- where the last fragment keeps its name, and says one thing more
last_grows : (h : List ℕ) (ss : List SourceSpec) (done : List FragSpec) (f g : FragSpec) (s : Statement) (rest : List Statement) → g.name ≡ f.name →
    let sources = source_names (declared h ss [] []) in
    let frags = named (done ++ f ∷ []) in
    frag_said sources frags g ++ rest ≡ frag_said sources frags f ++ (s ∷ rest) → said_then (declared h ss (done ++ g ∷ []) []) rest ≡ said_then (declared h ss (done ++ f ∷ []) []) (s ∷ rest)
last_grows h ss done f g s rest same more =
    let sources : List Word = source_names (declared h ss [] []) in
    let frags : List Word = named (done ++ f ∷ []) in
    let names : named (done ++ g ∷ []) ≡ frags =
    map-append (λ (x : FragSpec). x.name) done (g ∷ []) ∙ ap (λ w. named done ++ w ∷ []) same ∙ sym (map-append (λ (x : FragSpec). x.name) done (f ∷ [])) in
    ap (λ l. heads 0 h ++ (flat_map source_statements ss ++ l))
    (ap (λ ws. flat_map (frag_said sources ws) (done ++ g ∷ []) ++ rest) names ∙ flat-push (frag_said sources frags) done g rest ∙ ap (λ l. flat_map (frag_said sources frags) done ++ l) more
    ∙ sym (flat-push (frag_said sources frags) done f (s ∷ rest)))

-- its patience, right behind it
patience_said : (ports : List Word) (f : FragSpec) (n : ℕ) (rest : List Statement) → f.ops ≡ [] → f.delay ≡ None → frag_said_at ports (with_delay n f) ++ rest ≡ frag_said_at ports f ++ (PatienceLine n ∷ rest)
patience_said ports f n rest ops delay =
    let first : Statement = FragmentLine f.name f.replicas ports in
    let said : Option ℕ → List OpSpec → List Statement = λ o l. first ∷ (patience_statements o ++ map (op_said ports (map (λ (op : OpSpec). op.name) l)) l) in
    ap (λ l. said (Some n) l ++ rest) ops ∙ sym (ap (λ l. said None l ++ (PatienceLine n ∷ rest)) ops) ∙ sym (ap (λ o. said o f.ops ++ (PatienceLine n ∷ rest)) delay)

none_is : (o : Option ℕ) → is_none o ≡ true → o ≡ None
none_is None h = refl
none_is (Some n) h = absurd cc

no_ops : (ops : List OpSpec) → is_nil ops ≡ true → ops ≡ []
no_ops [] h = refl
no_ops (op ∷ ops) h = absurd cc

abbrev PatienceGrows : List ℕ → List SourceSpec → ℕ → List FragSpec → Type 0
PatienceGrows h ss n fs =
    (is_nil (last_frag (declared h ss fs [])).ops && is_none (last_frag (declared h ss fs [])).delay) ≡ true → Grows (declared h ss fs []) (PatienceLine n)

patience_grows_last : (h : List ℕ) (ss : List SourceSpec) (n : ℕ) (done : List FragSpec) (f : FragSpec) → PatienceGrows h ss n (done ++ f ∷ [])
patience_grows_last h ss n done f fresh rest =
    let here : (is_nil f.ops && is_none f.delay) ≡ true = ap (λ (g : FragSpec). is_nil g.ops && is_none g.delay) (sym (last_one (declared h ss [] []) done f)) ∙ fresh in
    let p = and_parts (is_nil f.ops) (is_none f.delay) here in
    ap (λ l. said_then (declared h ss l []) rest) (change-last (with_delay n) done f)
    ∙ last_grows h ss done f (with_delay n f) (PatienceLine n) rest refl (patience_said _ f n rest (no_ops f.ops p.0) (none_is f.delay p.1))

pub patience_grows : (h : List ℕ) (ss : List SourceSpec) (n : ℕ) (fs : List FragSpec) → is_nil fs ≡ false → PatienceGrows h ss n fs
patience_grows h ss n fs some = let l = split fs some in subst (PatienceGrows h ss n) (sym l.parts) (patience_grows_last h ss n l.done l.last)

-- ---- a further operator

-- a wire of that name
abbrev IsWireOf : Word → List Word → List Word → Option Wire → Type 0
IsWireOf w ports ops None = ⊤
IsWireOf w ports ops (Some wire) = (more : List Word) → wire_name ports (ops ++ more) wire ≡ w

either_wire : (w : Word) (ports ops : List Word) (o p : Option ℕ) → IsPlaceOf w ports o → IsPlaceOf w ops p → IsWireOf w ports ops (or_else (option_map Port o) (option_map Op p))
either_wire w ports ops (Some i) p h k = λ more. h.1
either_wire w ports ops None (Some i) h k = λ more. nth-first [] ops more i k.0 ∙ k.1
either_wire w ports ops None None h k = tt

wire_is : (w : Word) (ports ops more : List Word) (o : Option Wire) → is_none o ≡ false → IsWireOf w ports ops o → wire_name ports (ops ++ more) (unwrap_or o (Port 0)) ≡ w
wire_is w ports ops more None known h = absurd cc
wire_is w ports ops more (Some wire) known h = h more

wires_are : (ports ops more ws : List Word) → list_any (λ w. is_none (wire_at ports ops w)) ws ≡ false → map (wire_name ports (ops ++ more)) (map (λ w. unwrap_or (wire_at ports ops w) (Port 0)) ws) ≡ ws
wires_are ports ops more [] known = refl
wires_are ports ops more (w ∷ ws) known =
    let p = or_parts (is_none (wire_at ports ops w)) (list_any (λ v. is_none (wire_at ports ops v)) ws) known in
    let one = wire_is w ports ops more (wire_at ports ops w) p.0 (either_wire w ports ops (place_of_name w ports) (place_of_name w ops) (place_is w ports) (place_is w ops)) in
    rw (one, wires_are ports ops more ws p.1) refl

-- the wires of operators that are there keep their names
wire_before : (f : FragSpec) (ports ops more : List Word) (w : Wire) → length ops ≡ length f.ops → is_named_wire f w ≡ true → wire_name ports (ops ++ more) w ≡ wire_name ports ops w
wire_before f ports ops more (Port p) many h = refl
wire_before f ports ops more (Op i) many h = let low = ltb-true i (length f.ops) h in nth-first [] ops more i (omega (arith, low, many))

wires_before : (f : FragSpec) (ports ops more : List Word) (ws : List Wire) → length ops ≡ length f.ops → list_all (is_named_wire f) ws ≡ true → map (wire_name ports (ops ++ more)) ws ≡ map (wire_name ports ops) ws
wires_before f ports ops more [] many h = refl
wires_before f ports ops more (w ∷ ws) many h =
    let p = and_parts (is_named_wire f w) (list_all (is_named_wire f) ws) h in
    rw (wire_before f ports ops more w many p.0, wires_before f ports ops more ws many p.1) refl

ops_before : (f : FragSpec) (ports ops more : List Word) (xs : List OpSpec) → length ops ≡ length f.ops → list_all (λ (op : OpSpec). list_all (is_named_wire f) op.reads) xs ≡ true → map (op_said ports (ops ++ more)) xs ≡ map (op_said ports ops) xs
ops_before f ports ops more [] many h = refl
ops_before f ports ops more (op ∷ xs) many h =
    let p = and_parts (list_all (is_named_wire f) op.reads) (list_all (λ (op : OpSpec). list_all (is_named_wire f) op.reads) xs) h in
    ap (λ ws. OperatorLine op.name ws op.kind ∷ map (op_said ports (ops ++ more)) xs) (wires_before f ports ops more op.reads many p.0) ∙ ap (λ l. op_said ports ops op ∷ l) (ops_before f ports ops more xs many p.1)

operator_said : (ports : List Word) (f : FragSpec) (name : Word) (inputs : List Word) (kind : OpKind) (rest : List Statement) → list_all (λ (op : OpSpec). list_all (is_named_wire f) op.reads) f.ops ≡ true →
    list_any (λ w. is_none (wire_at ports (op_names f) w)) inputs ≡ false →
    frag_said_at ports (with_op (record { name = name; kind = kind; reads = map (λ w. unwrap_or (wire_at ports (op_names f) w) (Port 0)) inputs }) f) ++ rest ≡ frag_said_at ports f ++ (OperatorLine name inputs kind ∷ rest)
operator_said ports f name inputs kind rest wires known =
    let ops : List Word = op_names f in
    let op : OpSpec = record { name = name; kind = kind; reads = map (λ w. unwrap_or (wire_at ports ops w) (Port 0)) inputs } in
    let many : length ops ≡ length f.ops = length-map f.ops (λ (x : OpSpec). x.name) in
    let names : map (λ (x : OpSpec). x.name) (f.ops ++ op ∷ []) ≡ ops ++ name ∷ [] = map-append (λ (x : OpSpec). x.name) f.ops (op ∷ []) in
    let patience : List Statement = patience_statements f.delay in
    let last : op_said ports (ops ++ name ∷ []) op ≡ OperatorLine name inputs kind = ap (λ ws. OperatorLine name ws kind) (wires_are ports ops (name ∷ []) inputs known) in
    let behind : map (op_said ports (map (λ (x : OpSpec). x.name) (f.ops ++ op ∷ []))) (f.ops ++ op ∷ []) ++ rest ≡ map (op_said ports ops) f.ops ++ (OperatorLine name inputs kind ∷ rest) =
    ap (λ ws. map (op_said ports ws) (f.ops ++ op ∷ []) ++ rest) names ∙ map-push (op_said ports (ops ++ name ∷ [])) f.ops op rest
    ∙ ap (λ l. l ++ (op_said ports (ops ++ name ∷ []) op ∷ rest)) (ops_before f ports ops (name ∷ []) f.ops many wires) ∙ ap (λ x. map (op_said ports ops) f.ops ++ (x ∷ rest)) last in
    ap (λ l. FragmentLine f.name f.replicas ports ∷ l)
    (append_assoc patience (map (op_said ports (map (λ (x : OpSpec). x.name) (f.ops ++ op ∷ []))) (f.ops ++ op ∷ [])) rest ∙ ap (λ l. patience ++ l) behind
    ∙ sym (append_assoc patience (map (op_said ports ops) f.ops) (OperatorLine name inputs kind ∷ rest)))

-- ports are named by their streams
one_port : (d : Draft) (s : StreamRef) → stream_name (plan_of d) s ≡ name_at (source_names d) (frag_names d) s
one_port d (Source s) = refl
one_port d (Frag f) = refl

pub all_ports : (d : Draft) (ss : List StreamRef) → map (stream_name (plan_of d)) ss ≡ map (name_at (source_names d) (frag_names d)) ss
all_ports d [] = refl
all_ports d (s ∷ ss) = rw (one_port d s, all_ports d ss) refl

abbrev OperatorGrows : List ℕ → List SourceSpec → Word → List Word → OpKind → List FragSpec → Type 0
OperatorGrows h ss name inputs kind fs =
    FragsFit (columns_of ss) [] fs → list_any (λ w. is_none (wire_named (declared h ss fs []) w)) inputs ≡ false → Grows (declared h ss fs []) (OperatorLine name inputs kind)

operator_grows_last : (h : List ℕ) (ss : List SourceSpec) (name : Word) (inputs : List Word) (kind : OpKind) (done : List FragSpec) (f : FragSpec) → OperatorGrows h ss name inputs kind (done ++ f ∷ [])
operator_grows_last h ss name inputs kind done f fit known rest =
    let d : Draft = declared h ss (done ++ f ∷ []) [] in
    let ports : List Word = map (name_at (source_names d) (frag_names d)) f.inputs in
    let columns : List ℕ = ports_in (columns_of ss) (columns_behind (columns_of ss) [] done) f in
    let many : length columns ≡ length f.inputs = length-map f.inputs (columns_in (columns_of ss) (columns_behind (columns_of ss) [] done)) in
    let fits : ops_fit columns [] f.ops ≡ true = (fits-split (columns_of ss) [] done f fit).1 in
    let wires = ops_named f columns [] f.ops many (omega arith) fits in
    let finds : (λ w. wire_named d w) ≡ wire_at ports (op_names f) =
    ap (λ (g : FragSpec). λ w. wire_at (map (stream_name (plan_of d)) g.inputs) (op_names g) w) (last_one (declared h ss [] []) done f) ∙ ap (λ ws. λ w. wire_at ws (op_names f) w) (all_ports d f.inputs) in
    let op : (Word → Option Wire) → OpSpec = λ find. record { name = name; kind = kind; reads = map (λ w. unwrap_or (find w) (Port 0)) inputs } in
    let here : list_any (λ w. is_none (wire_at ports (op_names f) w)) inputs ≡ false = ap (λ (find : Word → Option Wire). list_any (λ w. is_none (find w)) inputs) (sym finds) ∙ known in
    ap (λ find. said_then (declared h ss (change_last (with_op (op find)) (done ++ f ∷ [])) []) rest) finds
    ∙ ap (λ l. said_then (declared h ss l []) rest) (change-last (with_op (op (wire_at ports (op_names f)))) done f)
    ∙ last_grows h ss done f (with_op (op (wire_at ports (op_names f))) f) (OperatorLine name inputs kind) rest refl (operator_said ports f name inputs kind rest wires here)

pub operator_grows : (h : List ℕ) (ss : List SourceSpec) (name : Word) (inputs : List Word) (kind : OpKind) (fs : List FragSpec) → is_nil fs ≡ false → OperatorGrows h ss name inputs kind fs
operator_grows h ss name inputs kind fs some = let l = split fs some in subst (OperatorGrows h ss name inputs kind) (sym l.parts) (operator_grows_last h ss name inputs kind l.done l.last)
