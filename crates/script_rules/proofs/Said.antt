-- What a checked script says of its fragments and clients is what they are, and its operators fit.
use Rattle.std.proofs.Common.{◌≡◌, ℕ, suc, ◌+◌, ◌<◌, ◌≤◌, Bool, true, false, List, [], ◌∷◌, ◌++◌, map, length, Option, Some, None, refl, sym, ap, subst, ◌∙◌, arith}
use Rattle.std.specs.Prelude.{◌||◌, flat_map, is_none, unwrap_or, bytes_eq}
use Rattle.std.proofs.lemmas.Bool.{or_parts, and_parts, ltb-true}
use Rattle.std.proofs.lemmas.List.{append-nil, append_assoc, map-append, length-append, length-map}
use Rattle.std.proofs.lemmas.Grind.{flat_map-append}
use Rattle.std.proofs.lemmas.List.Folds.{list_any-append}
use Rattle.dpc_lists.specs.Lists.{nth, list_all, list_any}
use Rattle.dpc_model.specs.Words.{Word}
use Rattle.dpc_model.specs.ScriptText.{stream_name, wire_word}
use Rattle.dpc_model.specs.declared.operators.Wire.{Wire}
use Rattle.dpc_model.specs.declared.operators.Wire.TheVariants.{Port, Op}
use Rattle.dpc_model.specs.declared.operators.OpSpec.{OpSpec}
use Rattle.dpc_model.specs.declared.plans.SourceSpec.{SourceSpec}
use Rattle.dpc_model.specs.declared.plans.FragSpec.{FragSpec}
use Rattle.dpc_model.specs.declared.plans.ClientSpec.{ClientSpec}
use Rattle.dpc_model.specs.declared.plans.Plan.{Plan}
use Rattle.dpc_model.specs.declared.plans.StreamRef.{StreamRef}
use Rattle.dpc_model.specs.declared.plans.StreamRef.TheVariants.{Source, Frag}
use Rattle.dpc_lists.proofs.Truths.{or-true}
use Rattle.script_rules.specs.Statements.{FragmentLine}
use Rattle.script_rules.specs.Drafts.{Draft, and_then, plan_of, op_names, last_frag, with_op, with_delay, change_last}
use Rattle.script_rules.specs.Reasons.{is_among, has_twice}
use Rattle.script_rules.specs.Facts.{is_there}
use Rattle.script_rules.specs.Checking.{patience_statements, operator_statement, frag_statements, client_statement}
use Rattle.script_rules.proofs.Called.{named_sources, named}
use Rattle.script_rules.proofs.Apart.{same_word, among_neither, among_no, twice-first, twice-last}
use Rattle.script_rules.proofs.Lasts.{nth-first}
use Rattle.script_rules.proofs.Passing.{IsFine, Passes, passes_first, passes_then, all_said, said-append}
use Rattle.script_rules.proofs.Headers.{declared}
use Rattle.script_rules.proofs.Streams.{other_part, is_within, name_at}
use Rattle.script_rules.proofs.Inputs.{EachReads}
use Rattle.script_rules.proofs.Found.{found}
use Rattle.script_rules.proofs.Recalled.{AreWireNames, stream_back, stream_among, wire_at, wire_name, wires_back}
use Rattle.script_rules.proofs.Fitting.{FragsFit, columns_of, last_one, change-last, fits-join, operator_fits}

-- what holds of the names of a plan, whose fragments read what stands before them
pub record HasNames (plan : Plan) : Type 0 where
  pub apart : has_twice ((named_sources plan ++ named plan.frags) ++ flat_map op_names plan.frags) ≡ false
  pub no_source : is_among [] (named_sources plan) ≡ false
  pub no_frag : is_among [] (named plan.frags) ≡ false
  pub no_op : is_among [] (flat_map op_names plan.frags) ≡ false
  pub reads : EachReads (length plan.sources) 0 plan.frags

-- a plan's fragments, one of them apart
record IsSplit (plan : Plan) (done : List FragSpec) (f : FragSpec) (fs : List FragSpec) : Type 0 where
  parts : plan.frags ≡ done ++ f ∷ fs
  within : list_all (is_within (length plan.sources) (length done)) f.inputs ≡ true

reads_here : (n m : ℕ) (done : List FragSpec) (f : FragSpec) (fs : List FragSpec) → EachReads n m (done ++ f ∷ fs) → list_all (is_within n (m + length done)) f.inputs ≡ true
reads_here n m [] f fs h = let same : m ≡ m + 0 = omega arith in subst (λ k. list_all (is_within n k) f.inputs ≡ true) same h.0
reads_here n m (g ∷ done) f fs h =
    let same : (m + 1) + length done ≡ m + suc (length done) = omega arith in
    subst (λ k. list_all (is_within n k) f.inputs ≡ true) same (reads_here n (m + 1) done f fs h.1)

is_split : (plan : Plan) (done : List FragSpec) (f : FragSpec) (fs : List FragSpec) → HasNames plan → plan.frags ≡ done ++ f ∷ fs → IsSplit plan done f fs
is_split plan done f fs names parts =
    let same : 0 + length done ≡ length done = omega arith in
    record {
      parts = parts;
      within = subst (λ k. list_all (is_within (length plan.sources) k) f.inputs ≡ true) same (reads_here (length plan.sources) 0 done f fs (subst (EachReads (length plan.sources) 0) parts names.reads));
    }

-- ---- the names of streams before a fragment

stream_name_is : (plan : Plan) (done rest : List FragSpec) (n : ℕ) (s : StreamRef) → plan.frags ≡ done ++ rest → is_within n (length done) s ≡ true → stream_name plan s ≡ name_at (named_sources plan) (named done) s
stream_name_is plan done rest n (Source s) parts within = refl
stream_name_is plan done rest n (Frag f) parts within =
    let many : length (named done) ≡ length done = length-map done (λ (g : FragSpec). g.name) in
    let low : f < length done = ltb-true f (length done) within in
    ap (λ fs. nth [] (named fs) f) parts ∙ ap (λ ws. nth [] ws f) (map-append (λ (g : FragSpec). g.name) done rest) ∙ nth-first [] (named done) (named rest) f (omega (arith, low, many))

stream_names_are : (plan : Plan) (done rest : List FragSpec) (n : ℕ) (ss : List StreamRef) → plan.frags ≡ done ++ rest → list_all (is_within n (length done)) ss ≡ true → map (stream_name plan) ss ≡ map (name_at (named_sources plan) (named done)) ss
stream_names_are plan done rest n [] parts within = refl
stream_names_are plan done rest n (s ∷ ss) parts within =
    let p = and_parts (is_within n (length done) s) (list_all (is_within n (length done)) ss) within in
    rw (stream_name_is plan done rest n s parts p.0, stream_names_are plan done rest n ss parts p.1) refl

-- streams are found by their names
streams_back : (sources frags : List Word) (ss : List StreamRef) → has_twice (sources ++ frags) ≡ false → list_all (is_within (length sources) (length frags)) ss ≡ true → map (found sources frags) (map (name_at sources frags) ss) ≡ ss
streams_back sources frags [] apart within = refl
streams_back sources frags (s ∷ ss) apart within =
    let p = and_parts (is_within (length sources) (length frags) s) (list_all (is_within (length sources) (length frags)) ss) within in
    rw (stream_back sources frags s apart p.0, streams_back sources frags ss apart p.1) refl

apart_before : (plan : Plan) (done rest : List FragSpec) → HasNames plan → plan.frags ≡ done ++ rest → has_twice (named_sources plan ++ named done) ≡ false
apart_before plan done rest names parts =
    let streams : named_sources plan ++ named plan.frags ≡ (named_sources plan ++ named done) ++ named rest =
    ap (λ fs. named_sources plan ++ named fs) parts ∙ ap (λ ws. named_sources plan ++ ws) (map-append (λ (g : FragSpec). g.name) done rest) ∙ sym (append_assoc (named_sources plan) (named done) (named rest)) in
    twice-first (named_sources plan ++ named done) (named rest) (ap has_twice (sym streams) ∙ twice-first (named_sources plan ++ named plan.frags) (flat_map op_names plan.frags) names.apart)

inputs_back : (plan : Plan) (done rest : List FragSpec) (ss : List StreamRef) → HasNames plan → plan.frags ≡ done ++ rest → list_all (is_within (length plan.sources) (length done)) ss ≡ true →
    map (found (named_sources plan) (named done)) (map (stream_name plan) ss) ≡ ss
inputs_back plan done rest ss names parts within =
    let sources : length (named_sources plan) ≡ length plan.sources = length-map plan.sources (λ (s : SourceSpec). s.name) in
    let frags : length (named done) ≡ length done = length-map done (λ (g : FragSpec). g.name) in
    let here : list_all (is_within (length (named_sources plan)) (length (named done))) ss ≡ true =
    subst (λ m. list_all (is_within (length (named_sources plan)) m) ss ≡ true) (sym frags) (subst (λ n. list_all (is_within n (length done)) ss ≡ true) (sym sources) within) in
    ap (map (found (named_sources plan) (named done))) (stream_names_are plan done rest (length plan.sources) ss parts within) ∙ streams_back (named_sources plan) (named done) ss (apart_before plan done rest names parts) here

-- ---- the names of ports and of operators

ports_among : (sources frags : List Word) (n m : ℕ) (ss : List StreamRef) (w : Word) → length sources ≡ n → m ≤ length frags → list_all (is_within n m) ss ≡ true → is_among w (sources ++ frags) ≡ false →
    is_among w (map (name_at sources frags) ss) ≡ false
ports_among sources frags n m [] w many few within h = refl
ports_among sources frags n m (s ∷ ss) w many few within h =
    let p = and_parts (is_within n m s) (list_all (is_within n m) ss) within in
    let among = stream_among sources frags n m s many few p.0 in
    (elim (bytes_eq w (name_at sources frags s)) as (λ t. bytes_eq w (name_at sources frags s) ≡ t → (t || is_among w (map (name_at sources frags) ss)) ≡ false) [
      | true ↦ λ e.
          let same : w ≡ name_at sources frags s = same_word w (name_at sources frags s) e in
          let neither = among_neither w sources frags h in
          let lost : (is_among w sources || is_among w frags) ≡ false = rw (neither.0, neither.1) refl in
          let there : (is_among w sources || is_among w frags) ≡ true = subst (λ v. (is_among v sources || is_among v frags) ≡ true) (sym same) among in
          absurd cc
      | false ↦ λ e. ports_among sources frags n m ss w many few p.1 h
    ]) refl

-- the operators of a fragment, so far and still to come
wire_names : (plan : Plan) (done : List FragSpec) (f : FragSpec) (fs : List FragSpec) (before rest : List OpSpec) → HasNames plan → IsSplit plan done f fs → f.ops ≡ before ++ rest →
    has_twice (map (stream_name plan) f.inputs) ≡ false → AreWireNames (map (stream_name plan) f.inputs) (map (λ (op : OpSpec). op.name) before) (map (λ (op : OpSpec). op.name) rest)
wire_names plan done f fs before rest names split ops differ =
    let streams = named_sources plan ++ named plan.frags in
    let all_ops : flat_map op_names plan.frags ≡ flat_map op_names done ++ (op_names f ++ flat_map op_names fs) = ap (flat_map op_names) split.parts ∙ flat_map-append op_names done (f ∷ fs) in
    let here : op_names f ≡ map (λ (op : OpSpec). op.name) before ++ map (λ (op : OpSpec). op.name) rest = ap (map (λ (op : OpSpec). op.name)) ops ∙ map-append (λ (op : OpSpec). op.name) before rest in
    let apart : has_twice (op_names f) ≡ false =
    twice-first (op_names f) (flat_map op_names fs) (twice-last (flat_map op_names done) (op_names f ++ flat_map op_names fs) (ap has_twice (sym all_ops) ∙ twice-last streams (flat_map op_names plan.frags) names.apart)) in
    let no_op : is_among [] (op_names f) ≡ false =
    (among_neither [] (op_names f) (flat_map op_names fs) (among_neither [] (flat_map op_names done) (op_names f ++ flat_map op_names fs) (ap (is_among []) (sym all_ops) ∙ names.no_op)).1).0 in
    let many : length (named_sources plan) ≡ length plan.sources = length-map plan.sources (λ (s : SourceSpec). s.name) in
    let few : length done ≤ length (named plan.frags) = few_names in
    let ports : map (stream_name plan) f.inputs ≡ map (name_at (named_sources plan) (named plan.frags)) f.inputs = all_names f.inputs in
    let no_port : is_among [] (map (stream_name plan) f.inputs) ≡ false =
    ap (is_among []) ports ∙ ports_among (named_sources plan) (named plan.frags) (length plan.sources) (length done) f.inputs [] many few split.within (among_no [] (named_sources plan) (named plan.frags) names.no_source names.no_frag) in
    record {
      ports = differ;
      ops = ap has_twice (sym here) ∙ apart;
      no_port = no_port;
      no_op = ap (is_among []) (sym here) ∙ no_op;
      other = λ w h.
          let among : is_among w (op_names f) ≡ true = ap (is_among w) here ∙ h in
          let among_all : is_among w (flat_map op_names plan.frags) ≡ true =
          ap (is_among w) all_ops ∙ list_any-append (bytes_eq w) (flat_map op_names done) (op_names f ++ flat_map op_names fs)
          ∙ ap (λ t. is_among w (flat_map op_names done) || t) (list_any-append (bytes_eq w) (op_names f) (flat_map op_names fs) ∙ ap (λ t. t || is_among w (flat_map op_names fs)) among)
          ∙ or-true (is_among w (flat_map op_names done)) in
          let no_stream : is_among w streams ≡ false = other_part w streams (flat_map op_names plan.frags) names.apart among_all in
          ap (is_among w) ports ∙ ports_among (named_sources plan) (named plan.frags) (length plan.sources) (length done) f.inputs w many few split.within no_stream;
    }
  where
    few_names : length done ≤ length (named plan.frags)
    few_names =
        let whole : length (named plan.frags) ≡ length plan.frags = length-map plan.frags (λ (g : FragSpec). g.name) in
        let parts : length plan.frags ≡ length (done ++ f ∷ fs) = ap length split.parts in
        let both : length (done ++ f ∷ fs) ≡ length done + length (f ∷ fs) = length-append done (f ∷ fs) in
        omega (arith, whole, parts, both)

    all_names : (ss : List StreamRef) → map (stream_name plan) ss ≡ map (name_at (named_sources plan) (named plan.frags)) ss
    all_names [] = refl
    all_names (Source s ∷ ss) = ap (λ l. nth [] (named_sources plan) s ∷ l) (all_names ss)
    all_names (Frag g ∷ ss) = ap (λ l. nth [] (named plan.frags) g ∷ l) (all_names ss)

-- ---- operators are said one behind another

abbrev pub with_ops : FragSpec → List OpSpec → FragSpec
with_ops f ops = record f { ops = ops }

abbrev names_in : List OpSpec → List Word
names_in ops = map (λ (op : OpSpec). op.name) ops

-- a plan's sources, and these fragments
abbrev pub so_far : List ℕ → Plan → List FragSpec → Draft
so_far h plan fs = declared h plan.sources fs []

abbrev is_lost : List Word → List Word → List Word → Bool
is_lost ports ops ws = list_any (λ w. is_none (wire_at ports ops w)) ws

abbrev wires_named : List Word → List Word → List Word → List Wire
wires_named ports ops ws = map (λ w. unwrap_or (wire_at ports ops w) (Port 0)) ws

-- a line's words name the wires that are meant
wire_words_are : (plan : Plan) (f : FragSpec) (wires : List Wire) → map (wire_word plan f) wires ≡ map (wire_name (map (stream_name plan) f.inputs) (op_names f)) wires
wire_words_are plan f [] = refl
wire_words_are plan f (Port p ∷ wires) = ap (λ l. nth [] (map (stream_name plan) f.inputs) p ∷ l) (wire_words_are plan f wires)
wire_words_are plan f (Op i ∷ wires) = ap (λ l. nth [] (op_names f) i ∷ l) (wire_words_are plan f wires)

one_op : (h : List ℕ) (plan : Plan) (done : List FragSpec) (f : FragSpec) (fs : List FragSpec) (before : List OpSpec) (op : OpSpec) (rest : List OpSpec) → HasNames plan → IsSplit plan done f fs →
    f.ops ≡ before ++ op ∷ rest → has_twice (map (stream_name plan) f.inputs) ≡ false → IsFine (so_far h plan (done ++ with_ops f before ∷ [])) (operator_statement plan f op) →
    and_then (so_far h plan (done ++ with_ops f before ∷ [])) (operator_statement plan f op) ≡ so_far h plan (done ++ with_ops f (before ++ op ∷ []) ∷ [])
one_op h plan done f fs before op rest names split ops differ fine =
    let d : Draft = so_far h plan (done ++ with_ops f before ∷ []) in
    let last : last_frag d ≡ with_ops f before = last_one (so_far h plan []) done (with_ops f before) in
    let now : Plan = plan_of d in
    let ports = map (stream_name plan) f.inputs in
    let words = map (wire_word plan f) op.reads in
    let those = map (wire_name ports (names_in before ++ names_in (op ∷ rest))) op.reads in
    let same_ports : map (stream_name now) f.inputs ≡ ports =
    stream_names_are now done (with_ops f before ∷ []) (length plan.sources) f.inputs refl split.within ∙ sym (stream_names_are plan done (f ∷ fs) (length plan.sources) f.inputs split.parts split.within) in
    let same_ops : op_names f ≡ names_in before ++ names_in (op ∷ rest) = ap names_in ops ∙ map-append (λ (o : OpSpec). o.name) before (op ∷ rest) in
    let same_words : words ≡ those = wire_words_are plan f op.reads ∙ ap (λ l. map (wire_name ports l) op.reads) same_ops in
    let known : is_lost ports (names_in before) those ≡ false =
    sym (ap (λ (g : FragSpec). is_lost (map (stream_name now) g.inputs) (op_names g) words) last ∙ ap (λ l. is_lost l (names_in before) words) same_ports ∙ ap (is_lost ports (names_in before)) same_words) ∙ fine.known in
    let reads : wires_named (map (stream_name now) (last_frag d).inputs) (op_names (last_frag d)) words ≡ op.reads =
    ap (λ (g : FragSpec). wires_named (map (stream_name now) g.inputs) (op_names g) words) last ∙ ap (λ l. wires_named l (names_in before) words) same_ports
    ∙ ap (wires_named ports (names_in before)) same_words
    ∙ wires_back ports (names_in before) (names_in (op ∷ rest)) op.reads (wire_names plan done f fs before (op ∷ rest) names split ops differ) known in
    ap (λ l. so_far h plan (change_last (with_op (record { name = op.name; kind = op.kind; reads = l })) (done ++ with_ops f before ∷ []))) reads
    ∙ ap (so_far h plan) (change-last (with_op op) done (with_ops f before))

-- those that follow, and that all of them fit
record OpsSaid (h : List ℕ) (plan : Plan) (done : List FragSpec) (f : FragSpec) (before rest : List OpSpec) : Type 0 where
  said : all_said (so_far h plan (done ++ with_ops f before ∷ [])) (map (operator_statement plan f) rest) ≡ so_far h plan (done ++ with_ops f (before ++ rest) ∷ [])
  fit : FragsFit (columns_of plan.sources) [] (done ++ with_ops f (before ++ rest) ∷ [])

-- the fragments so far, the last one with some of its operators
reads_so_far : (n m : ℕ) (done : List FragSpec) (f g : FragSpec) (fs : List FragSpec) → g.inputs ≡ f.inputs → EachReads n m (done ++ f ∷ fs) → EachReads n m (done ++ g ∷ [])
reads_so_far n m [] f g fs same h = (subst (λ l. list_all (is_within n m) l ≡ true) (sym same) h.0, tt)
reads_so_far n m (x ∷ done) f g fs same h = (h.0, reads_so_far n (m + 1) done f g fs same h.1)

ops_said : (h : List ℕ) (plan : Plan) (done : List FragSpec) (f : FragSpec) (fs : List FragSpec) (before rest : List OpSpec) → HasNames plan → IsSplit plan done f fs → f.ops ≡ before ++ rest →
    has_twice (map (stream_name plan) f.inputs) ≡ false → Passes (so_far h plan (done ++ with_ops f before ∷ [])) (map (operator_statement plan f) rest) →
    FragsFit (columns_of plan.sources) [] (done ++ with_ops f before ∷ []) → OpsSaid h plan done f before rest
ops_said h plan done f fs before [] names split ops differ p fit =
    let whole : before ≡ before ++ [] = sym (append-nil before) in
    record {
      said = ap (λ l. so_far h plan (done ++ with_ops f l ∷ [])) whole;
      fit = subst (λ l. FragsFit (columns_of plan.sources) [] (done ++ with_ops f l ∷ [])) whole fit;
    }
ops_said h plan done f fs before (op ∷ rest) names split ops differ p fit =
    let one = one_op h plan done f fs before op rest names split ops differ p.0 in
    let reads = reads_so_far (length plan.sources) 0 done f (with_ops f before) fs refl (subst (EachReads (length plan.sources) 0) split.parts names.reads) in
    let here = operator_fits (so_far h plan []) done (with_ops f before) op.name (map (wire_word plan f) op.reads) op.kind reads p.0 fit in
    let next_fit : FragsFit (columns_of plan.sources) [] (done ++ with_ops f (before ++ op ∷ []) ∷ []) = subst (λ (d : Draft). FragsFit (columns_of plan.sources) [] d.frags) one here in
    let next : Passes (so_far h plan (done ++ with_ops f (before ++ op ∷ []) ∷ [])) (map (operator_statement plan f) rest) = subst (λ d. Passes d (map (operator_statement plan f) rest)) one p.1 in
    let same : (before ++ op ∷ []) ++ rest ≡ before ++ op ∷ rest = append_assoc before (op ∷ []) rest in
    let more = ops_said h plan done f fs (before ++ op ∷ []) rest names split (ops ∙ sym same) differ next next_fit in
    record {
      said = ap (λ d. all_said d (map (operator_statement plan f) rest)) one ∙ more.said ∙ ap (λ l. so_far h plan (done ++ with_ops f l ∷ [])) same;
      fit = subst (λ l. FragsFit (columns_of plan.sources) [] (done ++ with_ops f l ∷ [])) same more.fit;
    }

-- ---- fragments

patience_said : (h : List ℕ) (plan : Plan) (done : List FragSpec) (g : FragSpec) (o : Option ℕ) →
    all_said (so_far h plan (done ++ record g { delay = None } ∷ [])) (patience_statements o) ≡ so_far h plan (done ++ record g { delay = o } ∷ [])
patience_said h plan done g None = refl
patience_said h plan done g (Some delay) = ap (so_far h plan) (change-last (with_delay delay) done (record g { delay = None }))

record FragSaid (h : List ℕ) (plan : Plan) (done : List FragSpec) (f : FragSpec) : Type 0 where
  said : all_said (so_far h plan done) (frag_statements plan f) ≡ so_far h plan (done ++ f ∷ [])
  fit : FragsFit (columns_of plan.sources) [] (done ++ f ∷ [])

frag_said : (h : List ℕ) (plan : Plan) (done : List FragSpec) (f : FragSpec) (fs : List FragSpec) → HasNames plan → plan.frags ≡ done ++ f ∷ fs → Passes (so_far h plan done) (frag_statements plan f) →
    FragsFit (columns_of plan.sources) [] done → FragSaid h plan done f
frag_said h plan done f fs names parts p fit =
    let split = is_split plan done f fs names parts in
    let streams = map (stream_name plan) f.inputs in
    let ops = map (operator_statement plan f) f.ops in
    let differ = or_parts _ (has_twice streams) p.0.name in
    let inputs = inputs_back plan done (f ∷ fs) f.inputs names parts split.within in
    let line : and_then (so_far h plan done) (FragmentLine f.name f.replicas streams) ≡ so_far h plan (done ++ record f { delay = None; ops = [] } ∷ []) =
    ap (λ l. so_far h plan (done ++ record { name = f.name; replicas = f.replicas; delay = None; inputs = l; ops = [] } ∷ [])) inputs in
    let head : all_said (and_then (so_far h plan done) (FragmentLine f.name f.replicas streams)) (patience_statements f.delay) ≡ so_far h plan (done ++ with_ops f [] ∷ []) =
    ap (λ d. all_said d (patience_statements f.delay)) line ∙ patience_said h plan done (with_ops f []) f.delay in
    let behind : Passes (so_far h plan (done ++ with_ops f [] ∷ [])) ops =
    subst (λ d. Passes d ops) head (passes_then (and_then (so_far h plan done) (FragmentLine f.name f.replicas streams)) (patience_statements f.delay) ops p.1) in
    let more = ops_said h plan done f fs [] f.ops names split refl differ.1 behind (fits-join (columns_of plan.sources) [] done (with_ops f []) fit refl) in
    record {
      said = said-append (and_then (so_far h plan done) (FragmentLine f.name f.replicas streams)) (patience_statements f.delay) ops ∙ ap (λ d. all_said d ops) head ∙ more.said;
      fit = more.fit;
    }

pub record FragsSaid (h : List ℕ) (plan : Plan) (done fs : List FragSpec) : Type 0 where
  pub said : all_said (so_far h plan done) (flat_map (frag_statements plan) fs) ≡ so_far h plan plan.frags
  pub fit : FragsFit (columns_of plan.sources) [] plan.frags

pub frags_said : (h : List ℕ) (plan : Plan) (done fs : List FragSpec) → HasNames plan → plan.frags ≡ done ++ fs → Passes (so_far h plan done) (flat_map (frag_statements plan) fs) →
    FragsFit (columns_of plan.sources) [] done → FragsSaid h plan done fs
frags_said h plan done [] names parts p fit =
    let same : done ≡ plan.frags = sym (parts ∙ append-nil done) in
    record { said = ap (so_far h plan) same; fit = subst (FragsFit (columns_of plan.sources) []) same fit }
frags_said h plan done (f ∷ fs) names parts p fit =
    let rest = flat_map (frag_statements plan) fs in
    let one = frag_said h plan done f fs names parts (passes_first (so_far h plan done) (frag_statements plan f) rest p) fit in
    let next = subst (λ d. Passes d rest) one.said (passes_then (so_far h plan done) (frag_statements plan f) rest p) in
    let more = frags_said h plan (done ++ f ∷ []) fs names (parts ∙ sym (append_assoc done (f ∷ []) fs)) next one.fit in
    record {
      said = said-append (so_far h plan done) (frag_statements plan f) rest ∙ ap (λ d. all_said d rest) one.said ∙ more.said;
      fit = more.fit;
    }

-- ---- clients

pub clients_said : (h : List ℕ) (plan : Plan) (done cs : List ClientSpec) → HasNames plan → list_all (λ (c : ClientSpec). is_there plan c.input) cs ≡ true →
    all_said (declared h plan.sources plan.frags done) (map (client_statement plan) cs) ≡ declared h plan.sources plan.frags (done ++ cs)
clients_said h plan done [] names there = ap (declared h plan.sources plan.frags) (sym (append-nil done))
clients_said h plan done (c ∷ cs) names there =
    let p = and_parts (is_there plan c.input) (list_all (λ (x : ClientSpec). is_there plan x.input) cs) there in
    let within : list_all (is_within (length plan.sources) (length plan.frags)) (c.input ∷ []) ≡ true = one_there c.input p.0 in
    let back = inputs_back plan plan.frags [] (c.input ∷ []) names (sym (append-nil plan.frags)) within in
    let input : found (named_sources plan) (named plan.frags) (stream_name plan c.input) ≡ c.input = cc in
    ap (λ s. all_said (declared h plan.sources plan.frags (done ++ record { name = c.name; input = s } ∷ [])) (map (client_statement plan) cs)) input
    ∙ clients_said h plan (done ++ c ∷ []) cs names p.1 ∙ ap (declared h plan.sources plan.frags) (append_assoc done (c ∷ []) cs)
  where
    one_there : (s : StreamRef) → is_there plan s ≡ true → list_all (is_within (length plan.sources) (length plan.frags)) (s ∷ []) ≡ true
    one_there (Source s) h = rw h refl
    one_there (Frag f) h = rw h refl
