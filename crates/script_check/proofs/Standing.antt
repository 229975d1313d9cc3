-- What is said behind some fragments stands for them, line by line.
use Rattle.std.proofs.Common.{◌≡◌, ℕ, ◌<◌, Bool, true, false, List, [], ◌∷◌, ◌++◌, map, length, Option, Some, None, refl, sym, ap, subst, ◌∙◌}
use Rattle.std.specs.Prelude.{◌||◌, not, nat_lt, flat_map, is_none, unwrap_or, option_map, bytes_eq}
use Rattle.std.proofs.lemmas.Bool.{or_parts, ltb-true}
use Rattle.std.proofs.lemmas.List.{append-nil, map_push, length-map}
use Rattle.std.proofs.lemmas.Grind.{flat_map-append}
use Rattle.std.proofs.lemmas.List.Folds.{list_any-append}
use Rattle.dpc_lists.specs.Lists.{nth, push, list_any, list_all, last_or}
use Rattle.dpc_model.specs.Words.{Word}
use Rattle.dpc_model.specs.ScriptText.{stream_name, wire_word}
use Rattle.dpc_model.specs.Columns.{kind_columns, wire_columns, columns_after, fragment_columns, columns_by, frags_columns, stream_columns}
use Rattle.dpc_model.specs.declared.operators.Wire.{Wire}
use Rattle.dpc_model.specs.declared.operators.Wire.TheVariants.{Port}
use Rattle.dpc_model.specs.declared.operators.OpSpec.{OpSpec}
use Rattle.dpc_model.specs.declared.plans.SourceSpec.{SourceSpec}
use Rattle.dpc_model.specs.declared.plans.FragSpec.{FragSpec}
use Rattle.dpc_model.specs.declared.plans.Plan.{Plan}
use Rattle.dpc_model.specs.declared.plans.StreamRef.{StreamRef}
use Rattle.dpc_model.specs.declared.plans.StreamRef.TheVariants.{Source, Frag}
use Rattle.dpc_lists.proofs.Truths.{any-same}
use Rattle.dpc_lists.proofs.Elements.{map-map, map-same}
use Rattle.script_rules.specs.declared.reasons.Reason.TheVariants.{NameTaken, Unknown, NoSuchColumn, ReadsAhead, PastLimit}
use Rattle.script_rules.specs.Statements.{FragmentLine, PatienceLine}
use Rattle.script_rules.specs.Drafts.{Draft, and_then, names, op_names, plan_of, last_frag, wire_named, with_op, with_delay}
use Rattle.script_rules.specs.Reasons.{first_of_tests, tests_said, is_among, has_twice, is_full, is_too_large, input_columns}
use Rattle.script_rules.specs.Checking.{operator_statement}
use Rattle.script_rules.proofs.Streams.{stream_at, is_within, name_at}
use Rattle.script_rules.proofs.Found.{found, found_is, found_within}
use Rattle.script_rules.proofs.Lasts.{nth-first}
use Rattle.script_rules.proofs.Recalled.{wire_at}
use Rattle.script_rules.proofs.Passing.{none_holds}
use Rattle.script_rules.proofs.Fitting.{columns_in, columns_of, all_columns, ports_are, last_one, change-last}
use Rattle.script_check.specs.Judging.{declaring}
use Rattle.script_check.specs.Locals.{named_sources, named_frags, names_before, stream_of, found_stream, port_columns, name_columns, read_columns, wire_of, takes_name, misses_column, against_fragment, against_operator}
use Rattle.script_check.specs.Behind.{StandFor, IsBehind, StandsFor, IsInside}

-- ---- lists

any-map : {X Y : Type 0} (test : Y → Bool) (f : X → Y) (xs : List X) → list_any test (map f xs) ≡ list_any (λ x. test (f x)) xs
any-map test f [] = refl
any-map test f (x ∷ xs) = ap (λ b. test (f x) || b) (any-map test f xs)

abbrev joined : List (List Word) → List Word
joined [] = []
joined (ws ∷ wss) = ws ++ joined wss

flat-joined : (fs : List FragSpec) → flat_map op_names fs ≡ joined (map op_names fs)
flat-joined [] = refl
flat-joined (f ∷ fs) = ap (λ l. op_names f ++ l) (flat-joined fs)

pub flat-same : (fs gs : List FragSpec) → map op_names fs ≡ map op_names gs → flat_map op_names fs ≡ flat_map op_names gs
flat-same fs gs h = flat-joined fs ∙ ap joined h ∙ sym (flat-joined gs)

pub as_many : (fs gs : List FragSpec) → named_frags fs ≡ named_frags gs → length fs ≡ length gs
as_many fs gs h = sym (length-map fs (λ (f : FragSpec). f.name)) ∙ ap (λ (l : List Word). length l) h ∙ length-map gs (λ (f : FragSpec). f.name)

-- ---- a fragment's line

module _ (plan : Plan) (before : List FragSpec) (columns : List ℕ) (fs : List FragSpec) (h : StandFor plan before columns fs) where
  abbrev behind : Draft
  behind = declaring plan plan.sources fs []

  pub names_same : names behind ≡ names_before plan.sources before
  names_same =
      let s = named_sources plan.sources in
      append-nil ((s ++ named_frags fs) ++ flat_map op_names fs) ∙ ap (λ l. (s ++ l) ++ flat_map op_names fs) h.named ∙ ap (λ l. (s ++ named_frags before) ++ l) (flat-same fs before h.ops)

  pub fragment_tested : (f : FragSpec) → first_of_tests (tests_said behind (FragmentLine f.name f.replicas (map (stream_name plan) f.inputs))) ≡ first_of_tests (against_fragment plan before f)
  fragment_tested f =
      let s = named_sources plan.sources in
      let words = map (stream_name plan) f.inputs in
      ap (λ ws. first_of_tests ((is_among f.name ws || has_twice words, NameTaken) ∷ (list_any (λ w. is_none (stream_at s (named_frags fs) w)) words, ReadsAhead) ∷ (is_full 16 fs, PastLimit) ∷ [])) names_same
      ∙ ap (λ l. first_of_tests ((is_among f.name (names_before plan.sources before) || has_twice words, NameTaken) ∷ (list_any (λ w. is_none (stream_at s l w)) words, ReadsAhead) ∷ (is_full 16 fs, PastLimit) ∷ [])) h.named
      ∙ ap (λ n. first_of_tests ((is_among f.name (names_before plan.sources before) || has_twice words, NameTaken) ∷ (list_any (λ w. is_none (stream_of plan.sources before w)) words, ReadsAhead) ∷ (not (nat_lt n 16), PastLimit) ∷ [])) (as_many fs before h.named)

  pub fragment_inside : (f : FragSpec) → first_of_tests (against_fragment plan before f) ≡ None → IsInside plan before columns f [] [] (and_then behind (FragmentLine f.name f.replicas (map (stream_name plan) f.inputs)))
  fragment_inside f none =
      let s = named_sources plan.sources in
      let words = map (stream_name plan) f.inputs in
      let tests = none_holds (against_fragment plan before f) none in
      let inputs : List StreamRef = map (found s (named_frags fs)) words in
      record {
        front = fs;
        last = record { name = f.name; replicas = f.replicas; delay = None; inputs = inputs; ops = [] };
        stand = h;
        stands = record {
          name = refl;
          inputs = ap (λ l. map (found s l) words) h.named ∙ map-map (found s (named_frags before)) (stream_name plan) f.inputs;
          known = tests.1.0;
          ops = refl;
          counted = refl;
        };
        draft = refl;
      }

-- ---- a fragment under way

or_shuffle : (s f n o p : Bool) → ((s || (f || (n || false))) || (o || (p || false))) ≡ (((s || f) || o) || ((n || false) || p))
or_shuffle true f n o p = refl
or_shuffle false true n o p = refl
or_shuffle false false true true p = refl
or_shuffle false false true false p = refl
or_shuffle false false false true p = refl
or_shuffle false false false false true = refl
or_shuffle false false false false false = refl

columns_same : (plan : Plan) (columns : List ℕ) (s : StreamRef) → columns_in (columns_of plan.sources) columns s ≡ columns_by plan columns s
columns_same plan columns (Source s) = refl
columns_same plan columns (Frag f) = refl

after-push : (ports outputs : List ℕ) (ops : List OpSpec) (op : OpSpec) →
    columns_after ports outputs (ops ++ op ∷ []) ≡ columns_after ports outputs ops ++ kind_columns op.kind (map (wire_columns ports (columns_after ports outputs ops)) op.reads) ∷ []
after-push ports outputs [] op = refl
after-push ports outputs (o ∷ ops) op = after-push ports (push outputs (kind_columns o.kind (map (wire_columns ports outputs) o.reads))) ops op

frags-push : (plan : Plan) (done : List ℕ) (fs : List FragSpec) (f : FragSpec) →
    frags_columns plan done (fs ++ f ∷ []) ≡ frags_columns plan done fs ++ fragment_columns (map (columns_by plan (frags_columns plan done fs)) f.inputs) f.ops ∷ []
frags-push plan done [] f = refl
frags-push plan done (g ∷ fs) f = frags-push plan (push done (fragment_columns (map (columns_by plan done) g.inputs) g.ops)) fs f

found-columns : (g : Wire → ℕ) (look : Wire → Option Wire) (reads : List Wire) → list_any (λ r. is_none (look r)) reads ≡ false →
    map g (map (λ r. unwrap_or (look r) (Port 0)) reads) ≡ map (λ r. unwrap_or (option_map g (look r)) 0) reads
found-columns g look [] known = refl
found-columns g look (r ∷ reads) known =
    let p = or_parts (is_none (look r)) (list_any (λ r. is_none (look r)) reads) known in
    rw (one (look r) p.0, found-columns g look reads p.1) refl
  where
    one : (o : Option Wire) → is_none o ≡ false → g (unwrap_or o (Port 0)) ≡ unwrap_or (option_map g o) 0
    one None h = absurd cc
    one (Some w) h = refl

module _ (plan : Plan) (before : List FragSpec) (columns : List ℕ) (f : FragSpec) (done : List OpSpec) (outs : List ℕ) (front : List FragSpec) (last : FragSpec)
    (hs : StandFor plan before columns front) (hl : StandsFor plan before columns f done outs last) where
  abbrev inside : Draft
  inside = declaring plan plan.sources (front ++ last ∷ []) []

  abbrev ports : List ℕ
  ports = port_columns plan before columns f

  last_is : last_frag inside ≡ last
  last_is = last_one (declaring plan plan.sources [] []) front last

  few : length front ≡ length before
  few = as_many front before hs.named

  one_named : (x : StreamRef) → is_within (length (named_sources plan.sources)) (length (named_frags before)) x ≡ true → stream_name (plan_of inside) x ≡ name_at (named_sources plan.sources) (named_frags before) x
  one_named (Source s) h = refl
  one_named (Frag g) h =
      let low : g < length (named_frags before) = ltb-true g (length (named_frags before)) h in
      ap (λ l. nth [] l g) (map_push (λ (x : FragSpec). x.name) front last ∙ ap (λ l. l ++ last.name ∷ []) hs.named) ∙ nth-first [] (named_frags before) (last.name ∷ []) g low

  each_named : (ws : List Word) → list_any (λ w. is_none (stream_of plan.sources before w)) ws ≡ false → map (stream_name (plan_of inside)) (map (found (named_sources plan.sources) (named_frags before)) ws) ≡ ws
  each_named [] known = refl
  each_named (w ∷ ws) known =
      let s = named_sources plan.sources in
      let p = or_parts (is_none (stream_of plan.sources before w)) (list_any (λ v. is_none (stream_of plan.sources before v)) ws) known in
      let here = found_is w s (named_frags before) p.0 in
      rw (one_named (found s (named_frags before) w) here.0, here.1, each_named ws p.1) refl

  inputs_are : last.inputs ≡ map (found (named_sources plan.sources) (named_frags before)) (map (stream_name plan) f.inputs)
  inputs_are = hl.inputs ∙ sym (map-map (found (named_sources plan.sources) (named_frags before)) (stream_name plan) f.inputs)

  ports_named : map (stream_name (plan_of inside)) last.inputs ≡ map (stream_name plan) f.inputs
  ports_named = ap (map (stream_name (plan_of inside))) inputs_are ∙ each_named (map (stream_name plan) f.inputs) hl.known

  pub wires_same : (w : Word) → wire_named inside w ≡ wire_of plan f done w
  wires_same w =
      ap (λ (g : FragSpec). wire_at (map (stream_name (plan_of inside)) g.inputs) (op_names g) w) last_is ∙ ap (λ l. wire_at l (op_names last) w) ports_named ∙ ap (λ l. wire_at (map (stream_name plan) f.inputs) l w) hl.ops

  within : list_all (is_within (length plan.sources) (length front)) last.inputs ≡ true
  within =
      let s = named_sources plan.sources in
      let many : length s ≡ length plan.sources = length-map plan.sources (λ (x : SourceSpec). x.name) in
      let count : length (named_frags before) ≡ length front = length-map before (λ (x : FragSpec). x.name) ∙ sym few in
      let here : list_all (is_within (length s) (length (named_frags before))) last.inputs ≡ true = ap (list_all (is_within (length s) (length (named_frags before)))) inputs_are ∙ found_within s (named_frags before) (map (stream_name plan) f.inputs) hl.known in
      subst (λ m. list_all (is_within (length plan.sources) m) last.inputs ≡ true) count (subst (λ n. list_all (is_within n (length (named_frags before))) last.inputs ≡ true) many here)

  ports_same : map (stream_columns (plan_of inside)) (last_frag inside).inputs ≡ ports
  ports_same =
      let sources = columns_of plan.sources in
      ap (λ (g : FragSpec). map (stream_columns (plan_of inside)) g.inputs) last_is ∙ ports_are (plan_of inside) front (last ∷ []) (length plan.sources) last.inputs refl within
      ∙ ap (λ l. map (columns_in sources l) last.inputs) (sym (all_columns plan [] front) ∙ hs.counted)
      ∙ map-same (columns_in sources columns) (columns_by plan columns) last.inputs (columns_same plan columns)
      ∙ ap (map (columns_by plan columns)) hl.inputs ∙ map-map (columns_by plan columns) (found_stream plan before) f.inputs

  outs_same : columns_after (map (stream_columns (plan_of inside)) (last_frag inside).inputs) [] (last_frag inside).ops ≡ outs
  outs_same = ap (λ l. columns_after l [] (last_frag inside).ops) ports_same ∙ ap (λ (g : FragSpec). columns_after ports [] g.ops) last_is ∙ hl.counted

  input_columns_same : (reads : List Wire) → input_columns inside (map (wire_word plan f) reads) ≡ read_columns plan f done ports outs reads
  input_columns_same reads =
      let words = map (wire_word plan f) reads in
      ap (λ l. map (λ w. unwrap_or (option_map (wire_columns l (columns_after (map (stream_columns (plan_of inside)) (last_frag inside).inputs) [] (last_frag inside).ops)) (wire_named inside w)) 0) words) ports_same
      ∙ ap (λ l. map (λ w. unwrap_or (option_map (wire_columns ports l) (wire_named inside w)) 0) words) outs_same
      ∙ map-same (λ w. unwrap_or (option_map (wire_columns ports outs) (wire_named inside w)) 0) (name_columns plan f done ports outs) words (λ w. ap (λ o. unwrap_or (option_map (wire_columns ports outs) o) 0) (wires_same w))
      ∙ map-map (name_columns plan f done ports outs) (wire_word plan f) reads

  takes_same : (w : Word) → is_among w (names inside) ≡ takes_name plan before f done w
  takes_same w =
      let s = named_sources plan.sources in
      let n = last.name ∷ [] in
      let o = flat_map op_names front in
      let p = op_names last ++ [] in
      let among = is_among w in
      append-nil-among ((s ++ named_frags (front ++ last ∷ [])) ++ flat_map op_names (front ++ last ∷ []))
      ∙ list_any-append (bytes_eq w) (s ++ named_frags (front ++ last ∷ [])) (flat_map op_names (front ++ last ∷ []))
      ∙ ap (λ b. b || among (flat_map op_names (front ++ last ∷ []))) (list_any-append (bytes_eq w) s (named_frags (front ++ last ∷ [])) ∙ ap (λ l. among s || among l) (map_push (λ (x : FragSpec). x.name) front last) ∙ ap (λ b. among s || b) (list_any-append (bytes_eq w) (named_frags front) n))
      ∙ ap (λ l. (among s || (among (named_frags front) || among n)) || among l) (flat_map-append op_names front (last ∷ []))
      ∙ ap (λ b. (among s || (among (named_frags front) || among n)) || b) (list_any-append (bytes_eq w) o p ∙ ap (λ b. among o || b) (list_any-append (bytes_eq w) (op_names last) []))
      ∙ or_shuffle (among s) (among (named_frags front)) (bytes_eq w last.name) (among o) (among (op_names last))
      ∙ ap (λ l. ((among s || among l) || among o) || (among n || among (op_names last))) hs.named
      ∙ ap (λ l. ((among s || among (named_frags before)) || among l) || (among n || among (op_names last))) (flat-same front before hs.ops)
      ∙ ap (λ l. ((among s || among (named_frags before)) || among (flat_map op_names before)) || (among n || among l)) hl.ops
      ∙ ap (λ x. ((among s || among (named_frags before)) || among (flat_map op_names before)) || (among (x ∷ []) || among (map (λ (op : OpSpec). op.name) done))) hl.name
      ∙ ap (λ b. b || (among (f.name ∷ []) || among (map (λ (op : OpSpec). op.name) done)))
      (sym (list_any-append (bytes_eq w) (s ++ named_frags before) (flat_map op_names before) ∙ ap (λ b. b || among (flat_map op_names before)) (list_any-append (bytes_eq w) s (named_frags before))))
    where
      append-nil-among : (l : List Word) → is_among w (l ++ []) ≡ is_among w l
      append-nil-among l = ap (is_among w) (append-nil l)

  full_same : is_full 16 (last_frag inside).ops ≡ is_full 16 done
  full_same =
      ap (λ (g : FragSpec). is_full 16 g.ops) last_is
      ∙ ap (λ n. not (nat_lt n 16)) (sym (length-map last.ops (λ (op : OpSpec). op.name)) ∙ ap (λ (l : List Word). length l) hl.ops ∙ length-map done (λ (op : OpSpec). op.name))

  pub operator_tested : (op : OpSpec) → first_of_tests (tests_said inside (operator_statement plan f op)) ≡ first_of_tests (against_operator plan before f done ports outs op)
  operator_tested op =
      let words = map (wire_word plan f) op.reads in
      let unknown : list_any (λ w. is_none (wire_named inside w)) words ≡ list_any (λ r. is_none (wire_of plan f done (wire_word plan f r))) op.reads =
      any-map (λ w. is_none (wire_named inside w)) (wire_word plan f) op.reads
      ∙ any-same (λ r. is_none (wire_named inside (wire_word plan f r))) (λ r. is_none (wire_of plan f done (wire_word plan f r))) op.reads (λ r. ap is_none (wires_same (wire_word plan f r))) in
      ap (λ b. first_of_tests ((b, NameTaken) ∷ (list_any (λ w. is_none (wire_named inside w)) words, Unknown) ∷ (misses_column op.kind (input_columns inside words), NoSuchColumn) ∷ (is_full 16 (last_frag inside).ops || is_too_large op.kind, PastLimit) ∷ [])) (takes_same op.name)
      ∙ ap (λ b. first_of_tests ((takes_name plan before f done op.name, NameTaken) ∷ (b, Unknown) ∷ (misses_column op.kind (input_columns inside words), NoSuchColumn) ∷ (is_full 16 (last_frag inside).ops || is_too_large op.kind, PastLimit) ∷ [])) unknown
      ∙ ap (λ l. first_of_tests ((takes_name plan before f done op.name, NameTaken) ∷ (list_any (λ r. is_none (wire_of plan f done (wire_word plan f r))) op.reads, Unknown) ∷ (misses_column op.kind l, NoSuchColumn) ∷ (is_full 16 (last_frag inside).ops || is_too_large op.kind, PastLimit) ∷ [])) (input_columns_same op.reads)
      ∙ ap (λ b. first_of_tests ((takes_name plan before f done op.name, NameTaken) ∷ (list_any (λ r. is_none (wire_of plan f done (wire_word plan f r))) op.reads, Unknown) ∷ (misses_column op.kind (read_columns plan f done ports outs op.reads), NoSuchColumn) ∷ (b || is_too_large op.kind, PastLimit) ∷ [])) full_same

  pub operator_inside : (op : OpSpec) → first_of_tests (against_operator plan before f done ports outs op) ≡ None →
      IsInside plan before columns f (done ++ op ∷ []) (outs ++ kind_columns op.kind (read_columns plan f done ports outs op.reads) ∷ []) (and_then inside (operator_statement plan f op))
  operator_inside op none =
      let words = map (wire_word plan f) op.reads in
      let tests = none_holds (against_operator plan before f done ports outs op) none in
      let reads : List Wire = map (λ w. unwrap_or (wire_named inside w) (Port 0)) words in
      let new : OpSpec = record { name = op.name; kind = op.kind; reads = reads } in
      let reads_are : reads ≡ map (λ r. unwrap_or (wire_of plan f done (wire_word plan f r)) (Port 0)) op.reads =
      map-map (λ w. unwrap_or (wire_named inside w) (Port 0)) (wire_word plan f) op.reads
      ∙ map-same (λ r. unwrap_or (wire_named inside (wire_word plan f r)) (Port 0)) (λ r. unwrap_or (wire_of plan f done (wire_word plan f r)) (Port 0)) op.reads (λ r. ap (λ o. unwrap_or o (Port 0)) (wires_same (wire_word plan f r))) in
      let columns_are : map (wire_columns ports outs) reads ≡ read_columns plan f done ports outs op.reads =
      ap (map (wire_columns ports outs)) reads_are ∙ found-columns (wire_columns ports outs) (λ r. wire_of plan f done (wire_word plan f r)) op.reads tests.1.0 in
      record {
        front = front;
        last = with_op new last;
        stand = hs;
        stands = record {
          name = hl.name;
          inputs = hl.inputs;
          known = hl.known;
          ops = map_push (λ (o : OpSpec). o.name) last.ops new ∙ ap (λ l. l ++ op.name ∷ []) hl.ops ∙ sym (map_push (λ (o : OpSpec). o.name) done op);
          counted =
              after-push ports [] last.ops new ∙ ap (λ l. l ++ kind_columns op.kind (map (wire_columns ports l) reads) ∷ []) hl.counted
              ∙ ap (λ l. outs ++ kind_columns op.kind l ∷ []) columns_are;
        };
        draft = ap (λ l. declaring plan plan.sources l []) (change-last (with_op new) front last);
      }

  pub patience_inside : (delay : ℕ) → IsInside plan before columns f done outs (and_then inside (PatienceLine delay))
  patience_inside delay =
      record {
        front = front;
        last = with_delay delay last;
        stand = hs;
        stands = record { name = hl.name; inputs = hl.inputs; known = hl.known; ops = hl.ops; counted = hl.counted };
        draft = ap (λ l. declaring plan plan.sources l []) (change-last (with_delay delay) front last);
      }

  -- all of its operators are said
  pub fragment_ends : done ≡ f.ops → IsBehind plan (before ++ f ∷ []) (columns ++ unwrap_or (last_or None outs) 0 ∷ []) inside
  fragment_ends whole =
      let named : named_frags (front ++ last ∷ []) ≡ named_frags (before ++ f ∷ []) =
      map_push (λ (x : FragSpec). x.name) front last ∙ ap (λ l. l ++ last.name ∷ []) hs.named ∙ ap (λ w. named_frags before ++ w ∷ []) hl.name ∙ sym (map_push (λ (x : FragSpec). x.name) before f) in
      let ops : map op_names (front ++ last ∷ []) ≡ map op_names (before ++ f ∷ []) =
      map_push op_names front last ∙ ap (λ l. l ++ op_names last ∷ []) hs.ops ∙ ap (λ w. map op_names before ++ w ∷ []) (hl.ops ∙ ap (map (λ (op : OpSpec). op.name)) whole) ∙ sym (map_push op_names before f) in
      let counted : frags_columns plan [] (front ++ last ∷ []) ≡ columns ++ unwrap_or (last_or None outs) 0 ∷ [] =
      frags-push plan [] front last ∙ ap (λ l. l ++ fragment_columns (map (columns_by plan l) last.inputs) last.ops ∷ []) hs.counted
      ∙ ap (λ l. columns ++ fragment_columns l last.ops ∷ []) (ap (map (columns_by plan columns)) hl.inputs ∙ map-map (columns_by plan columns) (found_stream plan before) f.inputs)
      ∙ ap (λ l. columns ++ unwrap_or (last_or None l) 0 ∷ []) hl.counted in
      record { fs = front ++ last ∷ []; stand = record { named = named; ops = ops; counted = counted }; draft = refl }
