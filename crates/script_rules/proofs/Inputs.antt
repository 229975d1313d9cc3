-- The fragments of a checked script read sources, and fragments before them.
use Rattle.std.proofs.Common.{◌≡◌, ℕ, ◌+◌, true, false, List, [], ◌∷◌, ◌++◌, map, length, refl, sym, ap, subst, ◌∙◌, arith}
use Rattle.std.specs.Prelude.{⊤, nat_lt, is_none, flat_map}
use Rattle.std.proofs.lemmas.Bool.{or_parts, and_parts, ltb-true}
use Rattle.std.proofs.lemmas.List.{append-nil, append_assoc, length-append, length-map}
use Rattle.dpc_lists.specs.Lists.{nth, list_all, list_any}
use Rattle.dpc_model.specs.Fragments.{ReadsBelow, ReadBefore}
use Rattle.dpc_model.specs.ScriptText.{stream_name}
use Rattle.dpc_model.specs.declared.operators.OpSpec.{OpSpec}
use Rattle.dpc_model.specs.declared.plans.SourceSpec.{SourceSpec}
use Rattle.dpc_model.specs.declared.plans.FragSpec.{FragSpec}
use Rattle.dpc_model.specs.declared.plans.Plan.{Plan}
use Rattle.dpc_model.specs.declared.plans.StreamRef.{StreamRef}
use Rattle.dpc_model.specs.declared.plans.StreamRef.TheVariants.{Source, Frag}
use Rattle.script_rules.specs.Drafts.{Draft, stream_named, source_names, frag_names}
use Rattle.script_rules.specs.Reasons.{is_among, has_twice}
use Rattle.script_rules.specs.Checking.{frag_statements}
use Rattle.script_rules.proofs.Called.{named_sources, named}
use Rattle.script_rules.proofs.Apart.{among_neither}
use Rattle.script_rules.proofs.Passing.{Passes, passes_then, all_said}
use Rattle.script_rules.proofs.Parts.{flat_map-none}
use Rattle.script_rules.proofs.Picking.{only, of_frag}
use Rattle.script_rules.proofs.Added.{all_sources_added, all_frags_added}
use Rattle.script_rules.proofs.Streams.{stream_at, is_within, name_at, found_is_within}

-- the names of a plan's streams differ, and none is empty
pub record HasStreamNames (plan : Plan) : Type 0 where
  pub apart : has_twice (named_sources plan ++ named plan.frags) ≡ false
  pub sources : is_among [] (named_sources plan) ≡ false
  pub frags : is_among [] (named plan.frags) ≡ false

-- a draft that knows the plan's sources, and its fragments but for these
pub record KnowsStreams (plan : Plan) (d : Draft) (rest : List FragSpec) : Type 0 where
  pub sources : named_sources plan ≡ source_names d
  pub frags : named plan.frags ≡ frag_names d ++ named rest

same_name : (plan : Plan) (d : Draft) (rest : List FragSpec) (s : StreamRef) → KnowsStreams plan d rest → stream_name plan s ≡ name_at (source_names d) (frag_names d ++ named rest) s
same_name plan d rest (Source s) k = ap (λ l. nth [] l s) k.sources
same_name plan d rest (Frag f) k = ap (λ l. nth [] l f) k.frags

pub one_within : (plan : Plan) (d : Draft) (rest : List FragSpec) (s : StreamRef) → HasStreamNames plan → KnowsStreams plan d rest → is_none (stream_named d (stream_name plan s)) ≡ false →
    is_within (length (source_names d)) (length (frag_names d)) s ≡ true
one_within plan d rest s names k found =
    let apart : has_twice (source_names d ++ (frag_names d ++ named rest)) ≡ false = ap (λ l. has_twice (l ++ (frag_names d ++ named rest))) (sym k.sources) ∙ ap (λ l. has_twice (named_sources plan ++ l)) (sym k.frags) ∙ names.apart in
    let no_source : is_among [] (source_names d) ≡ false = ap (is_among []) (sym k.sources) ∙ names.sources in
    let no_frag = among_neither [] (frag_names d) (named rest) (ap (is_among []) (sym k.frags) ∙ names.frags) in
    let known : is_none (stream_at (source_names d) (frag_names d) (name_at (source_names d) (frag_names d ++ named rest) s)) ≡ false =
    ap (λ w. is_none (stream_at (source_names d) (frag_names d) w)) (sym (same_name plan d rest s k)) ∙ found in
    found_is_within (source_names d) (frag_names d) (named rest) s apart (no_source, no_frag.0) known

pub all_within : (plan : Plan) (d : Draft) (rest : List FragSpec) (ss : List StreamRef) → HasStreamNames plan → KnowsStreams plan d rest →
    list_any (λ w. is_none (stream_named d w)) (map (stream_name plan) ss) ≡ false → list_all (is_within (length (source_names d)) (length (frag_names d))) ss ≡ true
all_within plan d rest [] names k found = refl
all_within plan d rest (s ∷ ss) names k found =
    let p = or_parts (is_none (stream_named d (stream_name plan s))) (list_any (λ w. is_none (stream_named d w)) (map (stream_name plan) ss)) found in
    rw (one_within plan d rest s names k p.0, all_within plan d rest ss names k p.1) refl

-- fragments that read so many sources, and fragments before them, from number n on
abbrev pub EachReads : ℕ → ℕ → List FragSpec → Type 0
EachReads sources n [] = ⊤
EachReads sources n (f ∷ fs) = (list_all (is_within sources n) f.inputs ≡ true) × EachReads sources (n + 1) fs

pub knows_one_more : (plan : Plan) (d : Draft) (f : FragSpec) (fs : List FragSpec) → KnowsStreams plan d (f ∷ fs) → KnowsStreams plan (all_said d (frag_statements plan f)) fs
knows_one_more plan d f fs k =
    let no_operator : flat_map (λ (op : OpSpec). only false op.name) f.ops ≡ [] = flat_map-none _ f.ops (λ op. refl) in
    let sources : source_names (all_said d (frag_statements plan f)) ≡ source_names d =
    all_sources_added d (frag_statements plan f) ∙ ap (λ l. source_names d ++ l) (of_frag true false false false plan f ∙ no_operator) ∙ append-nil (source_names d) in
    let frags : frag_names (all_said d (frag_statements plan f)) ≡ frag_names d ++ f.name ∷ [] =
    all_frags_added d (frag_statements plan f) ∙ ap (λ l. frag_names d ++ l) (of_frag false true false false plan f ∙ ap (λ l. f.name ∷ l) no_operator) in
    record {
      sources = k.sources ∙ sym sources;
      frags = k.frags ∙ sym (append_assoc (frag_names d) (f.name ∷ []) (named fs)) ∙ ap (λ l. l ++ named fs) (sym frags);
    }

pub frags_read : (plan : Plan) (d : Draft) (fs : List FragSpec) → HasStreamNames plan → KnowsStreams plan d fs → Passes d (flat_map (frag_statements plan) fs) →
    (n : ℕ) → length (frag_names d) ≡ n → EachReads (length plan.sources) n fs
frags_read plan d [] names k p n count = tt
frags_read plan d (f ∷ fs) names k p n count =
    let many : length (source_names d) ≡ length plan.sources = ap length (sym k.sources) ∙ length-map plan.sources (λ (s : SourceSpec). s.name) in
    let here = all_within plan d (f ∷ fs) f.inputs names k p.0.stream in
    let after : Draft = all_said d (frag_statements plan f) in
    let next = passes_then d (frag_statements plan f) (flat_map (frag_statements plan) fs) p in
    let knows = knows_one_more plan d f fs k in
    let no_operator : flat_map (λ (op : OpSpec). only false op.name) f.ops ≡ [] = flat_map-none _ f.ops (λ op. refl) in
    let frags : frag_names after ≡ frag_names d ++ f.name ∷ [] =
    all_frags_added d (frag_statements plan f) ∙ ap (λ l. frag_names d ++ l) (of_frag false true false false plan f ∙ ap (λ l. f.name ∷ l) no_operator) in
    let counted : length (frag_names after) ≡ length (frag_names d) + 1 = ap length frags ∙ length-append (frag_names d) (f.name ∷ []) in (
      subst (λ m. list_all (is_within (length plan.sources) m) f.inputs ≡ true) count (subst (λ m. list_all (is_within m (length (frag_names d))) f.inputs ≡ true) many here),
      frags_read plan after fs names knows next (n + 1) (omega (arith, counted, count)),
    )

reads_below : (sources n : ℕ) (ss : List StreamRef) → list_all (is_within sources n) ss ≡ true → ReadsBelow n ss
reads_below sources n [] h = tt
reads_below sources n (Source s ∷ ss) h = reads_below sources n ss (and_parts (nat_lt s sources) (list_all (is_within sources n) ss) h).1
reads_below sources n (Frag f ∷ ss) h =
    let p = and_parts (nat_lt f n) (list_all (is_within sources n) ss) h in
    (ltb-true f n p.0, reads_below sources n ss p.1)

pub read_before : (sources n : ℕ) (fs : List FragSpec) → EachReads sources n fs → ReadBefore n fs
read_before sources n [] h = tt
read_before sources n (f ∷ fs) h = (reads_below sources n f.inputs h.0, read_before sources (n + 1) fs h.1)
