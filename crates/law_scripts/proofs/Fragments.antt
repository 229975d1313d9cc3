-- The lines of fragments and of clients say these, whatever stands behind them.
use Rattle.std.proofs.Common.{◌≡◌, ℕ, suc, zero, ◌-◌, ◌^◌, ◌<◌, ◌≤◌, Bool, true, false, List, [], ◌∷◌, ◌++◌, map, length, Option, Some, None, refl, ap, ◌∙◌, arith}
use Rattle.std.specs.Prelude.{◌&&◌, ◌==◌, flat_map, codes, is_none, if◌then◌else◌}
use Rattle.std.specs.Fmt.{decimal}
use Rattle.std.proofs.Math.ListN.{replicate}
use Rattle.std.proofs.lemmas.Bool.{and_parts}
use Rattle.std.proofs.lemmas.List.{length-map}
use Rattle.dpc_lists.specs.Lists.{list_all, is_nil, push, changed}
use Rattle.dpc_model.specs.Words.{Word}
use Rattle.dpc_model.specs.ScriptText.{stream_name, patience_lines, operator_line, frag_lines, client_line, wire_word}
use Rattle.dpc_model.specs.declared.operators.OpSpec.{OpSpec}
use Rattle.dpc_model.specs.declared.plans.SourceSpec.{SourceSpec}
use Rattle.dpc_model.specs.declared.plans.FragSpec.{FragSpec}
use Rattle.dpc_model.specs.declared.plans.ClientSpec.{ClientSpec}
use Rattle.dpc_model.specs.declared.plans.Plan.{Plan}
use Rattle.script_rules.specs.declared.keywords.Keyword.TheVariants as key
use Rattle.script_rules.specs.declared.places.Sort.TheVariants.{Name}
use Rattle.script_rules.specs.Spelling.{is_name}
use Rattle.script_rules.specs.Keywords.{keywords, late_keywords, looked_up}
use Rattle.script_rules.specs.Statements.{Statement, FragmentLine, PatienceLine, ClientLine}
use Rattle.script_rules.specs.Places.{must, may, is_between}
use Rattle.script_rules.specs.Drafts.{Draft, change_last, with_delay, with_op}
use Rattle.script_rules.specs.Reasons.{is_fresh}
use Rattle.script_rules.specs.Checking.{patience_statements, operator_statement, frag_statements, client_statement, is_op_in_range, are_inputs_in_range, is_kind_in_range, is_delay_in_range, is_frag_in_range, is_client_in_range}
use Rattle.script_rules.specs.Facts.{is_there}
use Rattle.script_rules.specs.Laws.{has_named_wires, is_named_wire}
use Rattle.script_rules.proofs.Numerals.{number-decimal}
use Rattle.script_rules.proofs.Ranges.{between}
use Rattle.script_rules.proofs.Headers.{header_of, declared}
use Rattle.script_rules.proofs.Names.{op_names_in_range}
use Rattle.script_rules.proofs.Fitting.{last_one}
use Rattle.law_scripts.proofs.Fits.{Fits}
use Rattle.law_scripts.proofs.Says.{SaysLine, Says, joined}
use Rattle.law_scripts.proofs.Placing.{name_stands, number_stands, names_fit}
use Rattle.law_scripts.proofs.Operators.{known_word, TakesOperators, operator_line_says}
use Rattle.law_scripts.proofs.Referring.{HasGoodNames, stream_is_named, streams_are_named, wires_are_named}
use Rattle.law_scripts.proofs.Parts.{whole_header}

-- ---- lists that have an element

still_some : {X : Type 0} (f : X → X) (i : ℕ) (xs : List X) → is_nil xs ≡ false → is_nil (changed i f xs) ≡ false
still_some f i [] h = h
still_some f zero (x ∷ xs) h = h
still_some f (suc i) (x ∷ xs) h = h

some_pushed : {X : Type 0} (xs : List X) (x : X) → is_nil (push xs x) ≡ false
some_pushed [] x = refl
some_pushed (y ∷ xs) x = refl

-- ---- what one fragment says

inputs_fit : (ws : List Word) → 1 ≤ length ws → length ws ≤ 8 → list_all is_name ws ≡ true → Fits (must Name ∷ replicate 7 (may Name)) ws
inputs_fit [] some few h = absurd (omega (arith, some))
inputs_fit (w ∷ ws) some few h =
    let p = and_parts (is_name w) (list_all is_name ws) h in
    (name_stands w p.0, names_fit ws 7 (omega (arith, few)) p.1)

-- what is asked of a fragment's numbers and names
record FragRanges (plan : Plan) (f : FragSpec) : Type 0 where
  name : is_name f.name ≡ true
  replicas : is_between 1 4 f.replicas ≡ true
  delay : is_delay_in_range plan f.delay ≡ true
  inputs : is_between 1 8 (length f.inputs) ≡ true
  ops : list_all (is_op_in_range plan) f.ops ≡ true

frag_parts : (plan : Plan) (f : FragSpec) → is_frag_in_range plan f ≡ true → FragRanges plan f
frag_parts plan f h =
    let replicas = is_between 1 4 f.replicas in
    let delay = is_delay_in_range plan f.delay in
    let ports = is_between 1 8 (length f.inputs) in
    let a = and_parts (is_name f.name && replicas && delay && ports) (list_all (is_op_in_range plan) f.ops) h in
    let b = and_parts (is_name f.name && replicas && delay) ports a.0 in
    let c = and_parts (is_name f.name && replicas) delay b.0 in
    let n = and_parts (is_name f.name) replicas c.0 in
    record { name = n.0; replicas = n.1; delay = c.1; inputs = b.1; ops = a.1 }

-- each number of a fragment refers to what has a name
abbrev pub refers : Plan → FragSpec → Bool
refers plan f = list_all (is_there plan) f.inputs && has_named_wires f

module _ (plan : Plan) (names : HasGoodNames plan) (sources : List SourceSpec) where
  -- behind some fragments
  abbrev pub behind : List FragSpec → Draft
  behind done = declared (header_of plan) sources done []

  abbrev BehindFrags : List (List Word) → List Statement → Type 0
  BehindFrags lines ss = (done : List FragSpec) → Says (behind done) lines ss

  abbrev BehindSome : List (List Word) → List Statement → Type 0
  BehindSome lines ss = (done : List FragSpec) → is_nil done ≡ false → Says (behind done) lines ss

  frag_line_says : (done : List FragSpec) (f : FragSpec) → FragRanges plan f → list_all (is_there plan) f.inputs ≡ true →
      SaysLine (behind done) (codes "fragment") (f.name ∷ decimal f.replicas ∷ map (stream_name plan) f.inputs) (FragmentLine f.name f.replicas (map (stream_name plan) f.inputs))
  frag_line_says done f r there =
      let most = (between 1 4 f.replicas r.replicas).1 in
      let low : f.replicas < 2 ^ 64 = omega (arith, most) in
      let count = between 1 8 (length f.inputs) r.inputs in
      let many : length (map (stream_name plan) f.inputs) ≡ length f.inputs = length-map f.inputs (stream_name plan) in
      let least = count.0 in
      let greatest = count.1 in
      record {
        keyword = key.Fragment;
        known = known_word plan.version (codes "fragment") key.Fragment refl refl;
        first = refl;
        fits =
            (name_stands f.name r.name, (number_stands 1 4 f.replicas low r.replicas, inputs_fit (map (stream_name plan) f.inputs) (omega (arith, many, least)) (omega (arith, many, greatest)) (streams_are_named plan f.inputs names there)));
        part = rw (whole_header plan sources done []) refl;
        said = ap (λ n. FragmentLine f.name n (map (stream_name plan) f.inputs)) (number-decimal f.replicas low);
      }

  patience_line_says : (done : List FragSpec) (g : FragSpec) (n : ℕ) → (is_nil g.ops && is_none g.delay) ≡ true → (plan.version == 3) ≡ true → is_between 0 (10 ^ 12) n ≡ true →
      SaysLine (behind (push done g)) (codes "patience") (decimal n ∷ []) (PatienceLine n)
  patience_line_says done g n fresh wide h =
      let most = (between 0 (10 ^ 12) n h).1 in
      let low : n < 2 ^ 64 = omega (arith, most) in
      let fresh_here : is_fresh (behind (push done g)) ≡ true = ap (λ (f : FragSpec). is_nil f.ops && is_none f.delay) (last_one (behind done) done g) ∙ fresh in
      record {
        keyword = key.Patience;
        known = ap (λ t. looked_up (if t then keywords ++ late_keywords else keywords) (codes "patience")) wide;
        first = refl;
        fits = (number_stands 0 (10 ^ 12) n low h, refl);
        part = rw (whole_header plan sources (push done g) [], some_pushed done g, fresh_here) refl;
        said = ap PatienceLine (number-decimal n low);
      }

  patience_says : (o : Option ℕ) (lines : List (List Word)) (ss : List Statement) → is_delay_in_range plan o ≡ true → BehindSome lines ss → (done : List FragSpec) (g : FragSpec) → (is_nil g.ops && is_none g.delay) ≡ true →
      Says (behind (push done g)) (patience_lines o ++ lines) (patience_statements o ++ ss)
  patience_says None lines ss h rest done g fresh = rest (push done g) (some_pushed done g)
  patience_says (Some n) lines ss h rest done g fresh =
      let p = and_parts (plan.version == 3) (is_between 0 (10 ^ 12) n) h in
      (patience_line_says done g n fresh p.0 p.1, rest (change_last (with_delay n) (push done g)) (still_some (with_delay n) (length (push done g) - 1) (push done g) (some_pushed done g)))

  takes : (done : List FragSpec) → is_nil done ≡ false → TakesOperators plan (behind done)
  takes done some = record { part = rw (whole_header plan sources done [], some) refl; end = refl }

  ops_say : (f : FragSpec) (ops : List OpSpec) (lines : List (List Word)) (ss : List Statement) → list_all is_name (map (stream_name plan) f.inputs) ≡ true → list_all is_name (map (λ (op : OpSpec). op.name) f.ops) ≡ true →
      list_all (is_op_in_range plan) ops ≡ true → list_all (λ (op : OpSpec). list_all (is_named_wire f) op.reads) ops ≡ true → BehindSome lines ss →
      BehindSome (map (operator_line plan f) ops ++ lines) (map (operator_statement plan f) ops ++ ss)
  ops_say f [] lines ss ports op_names h w rest = rest
  ops_say f (op ∷ ops) lines ss ports op_names h w rest =
      let p = and_parts (is_op_in_range plan op) (list_all (is_op_in_range plan) ops) h in
      let q = and_parts (list_all (is_named_wire f) op.reads) (list_all (λ (op : OpSpec). list_all (is_named_wire f) op.reads) ops) w in
      let a = and_parts (is_name op.name && are_inputs_in_range op.kind (length op.reads)) (is_kind_in_range plan op.kind) p.0 in
      let b = and_parts (is_name op.name) (are_inputs_in_range op.kind (length op.reads)) a.0 in
      let many : length (map (wire_word plan f) op.reads) ≡ length op.reads = length-map op.reads (wire_word plan f) in
      let inputs : are_inputs_in_range op.kind (length (map (wire_word plan f) op.reads)) ≡ true = ap (are_inputs_in_range op.kind) many ∙ b.1 in
      let named = wires_are_named plan f ports op_names op.reads q.0 in
      let more = ops_say f ops lines ss ports op_names p.1 q.1 rest in
      λ done some. (operator_line_says plan (behind done) (takes done some) op.name b.0 op.kind (map (wire_word plan f) op.reads) named inputs a.1, more (change_last (with_op _) done) (still_some (with_op _) (length done - 1) done some))

  pub frags_say : (fs : List FragSpec) (lines : List (List Word)) (ss : List Statement) → list_all (is_frag_in_range plan) fs ≡ true → list_all (refers plan) fs ≡ true → BehindFrags lines ss →
      BehindFrags (flat_map (frag_lines plan) fs ++ lines) (flat_map (frag_statements plan) fs ++ ss)
  frags_say [] lines ss h k rest = rest
  frags_say (f ∷ fs) lines ss h k rest =
      let p = and_parts (is_frag_in_range plan f) (list_all (is_frag_in_range plan) fs) h in
      let q = and_parts (refers plan f) (list_all (refers plan) fs) k in
      let r = frag_parts plan f p.0 in
      let t = and_parts (list_all (is_there plan) f.inputs) (has_named_wires f) q.0 in
      let more_lines : List (List Word) = flat_map (frag_lines plan) fs ++ lines in
      let more_said : List Statement = flat_map (frag_statements plan) fs ++ ss in
      let more : BehindFrags more_lines more_said = frags_say fs lines ss p.1 q.1 rest in
      let ops = ops_say f f.ops more_lines more_said (streams_are_named plan f.inputs names t.0) (op_names_in_range plan f.ops r.ops) r.ops t.1 (λ done some. more done) in
      let patience = patience_says f.delay (map (operator_line plan f) f.ops ++ more_lines) (map (operator_statement plan f) f.ops ++ more_said) r.delay ops in
      λ done. joined (behind done) (frag_lines plan f) (flat_map (frag_lines plan) fs) lines (frag_statements plan f) (flat_map (frag_statements plan) fs) ss
      (frag_line_says done f r t.0, joined _ (patience_lines f.delay) (map (operator_line plan f) f.ops) more_lines (patience_statements f.delay) (map (operator_statement plan f) f.ops) more_said (patience done _ refl))

  -- ---- clients

  module _ (frags : List FragSpec) where
    abbrev BehindClients : List (List Word) → List Statement → Type 0
    BehindClients lines ss = (done : List ClientSpec) → Says (declared (header_of plan) sources frags done) lines ss

    client_line_says : (done : List ClientSpec) (c : ClientSpec) → is_name c.name ≡ true → is_there plan c.input ≡ true →
        SaysLine (declared (header_of plan) sources frags done) (codes "client") (c.name ∷ stream_name plan c.input ∷ []) (ClientLine c.name (stream_name plan c.input))
    client_line_says done c named there =
        record {
          keyword = key.Client;
          known = known_word plan.version (codes "client") key.Client refl refl;
          first = refl;
          fits = (name_stands c.name named, (name_stands (stream_name plan c.input) (stream_is_named plan c.input names there), refl));
          part = whole_header plan sources frags done;
          said = refl;
        }

    pub clients_say : (cs : List ClientSpec) (lines : List (List Word)) (ss : List Statement) → list_all is_client_in_range cs ≡ true → list_all (λ (c : ClientSpec). is_there plan c.input) cs ≡ true → BehindClients lines ss →
        BehindClients (map (client_line plan) cs ++ lines) (map (client_statement plan) cs ++ ss)
    clients_say [] lines ss h k rest = rest
    clients_say (c ∷ cs) lines ss h k rest =
        let p = and_parts (is_client_in_range c) (list_all is_client_in_range cs) h in
        let q = and_parts (is_there plan c.input) (list_all (λ (c : ClientSpec). is_there plan c.input) cs) k in
        let more = clients_say cs lines ss p.1 q.1 rest in
        λ done. (client_line_says done c p.0 q.0, more _)
