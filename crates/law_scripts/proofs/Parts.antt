-- The lines of a script's parts say what these say, whatever stands behind them.
use Rattle.std.proofs.Common.{◌≡◌, ℕ, ◌^◌, ◌<◌, ◌≤◌, Bool, true, false, List, [], ◌∷◌, ◌++◌, map, length, refl, ap, ◌∙◌, arith}
use Rattle.std.specs.Prelude.{ℤ, ◌&&◌, ◌||◌, ◌==◌, ◌%◌, flat_map, codes, if◌then◌else◌}
use Rattle.std.specs.Fmt.{decimal, signed_decimal}
use Rattle.std.proofs.Math.ListN.{replicate}
use Rattle.std.proofs.lemmas.Bool.{and_parts, ltb-true}
use Rattle.dpc_lists.specs.Lists.{list_all}
use Rattle.dpc_model.specs.Words.{Word}
use Rattle.dpc_model.specs.ScriptText.{log_line, source_lines, header_lines, number_line}
use Rattle.dpc_model.specs.declared.tuples.Tuple.{Tuple}
use Rattle.dpc_model.specs.declared.plans.SourceSpec.{SourceSpec}
use Rattle.dpc_model.specs.declared.plans.FragSpec.{FragSpec}
use Rattle.dpc_model.specs.declared.plans.ClientSpec.{ClientSpec}
use Rattle.dpc_model.specs.declared.plans.Plan.{Plan}
use Rattle.script_rules.specs.declared.keywords.Keyword.TheVariants as key
use Rattle.script_rules.specs.declared.places.Sort.TheVariants.{Value}
use Rattle.script_rules.specs.Spelling.{is_name, is_i64, value}
use Rattle.script_rules.specs.Keywords.{keywords, late_keywords, looked_up}
use Rattle.script_rules.specs.Statements.{Statement, HeaderLine, SourceLine, LogLine}
use Rattle.script_rules.specs.Places.{must, may, is_between}
use Rattle.script_rules.specs.Drafts.{Draft, nothing_yet}
use Rattle.script_rules.specs.Reasons.{declares}
use Rattle.script_rules.specs.Checking.{header_statements, source_statements, top, is_header_in_range, is_u64, is_log_in_range, is_source_in_range}
use Rattle.script_rules.proofs.Numerals.{number-decimal, signed_is_value}
use Rattle.script_rules.proofs.Ranges.{between, top_is_low}
use Rattle.script_rules.proofs.Headers.{passing_number, header_of, declared}
use Rattle.law_scripts.proofs.Fits.{Fits}
use Rattle.law_scripts.proofs.Says.{SaysLine, Says, joined}
use Rattle.law_scripts.proofs.Placing.{name_stands, natural_stands, number_stands, multiple_stands, value_stands, values_fit}
use Rattle.law_scripts.proofs.Operators.{known_word}

-- ---- the header

-- the ranges of its numbers
record HeaderRanges (plan : Plan) : Type 0 where
  version : is_between 1 3 plan.version ≡ true
  width : is_between 1 (if plan.version == 3 then 2 ^ 50 else 1000000) plan.width ≡ true
  delay : is_between 0 (10 ^ 12) plan.delay ≡ true
  end : is_between plan.width (top plan) plan.end ≡ true
  whole : (plan.end % plan.width == 0) ≡ true

header_parts : (plan : Plan) → is_header_in_range plan ≡ true → HeaderRanges plan
header_parts plan h =
    let version = is_between 1 3 plan.version in
    let passing = plan.version == 3 || (if plan.passing then plan.version == 2 else plan.version == 1) in
    let width = is_between 1 (if plan.version == 3 then 2 ^ 50 else 1000000) plan.width in
    let delay = is_between 0 (10 ^ 12) plan.delay in
    let end = is_between plan.width (top plan) plan.end in
    let a = and_parts (version && passing && width && delay && end) (plan.end % plan.width == 0) h in
    let b = and_parts (version && passing && width && delay) end a.0 in
    let c = and_parts (version && passing && width) delay b.0 in
    let d = and_parts (version && passing) width c.0 in
    let e = and_parts version passing d.0 in
    record { version = e.0; width = d.1; delay = c.1; end = b.1; whole = a.1 }

low_width : (plan : Plan) → (if plan.version == 3 then 2 ^ 50 else 1000000) < 2 ^ 64
low_width plan = elim (plan.version == 3) as (λ t. (if t then 2 ^ 50 else 1000000) < 2 ^ 64) [ true ↦ omega arith | false ↦ omega arith ]

-- a draft of a header so far
abbrev headed : List ℕ → Draft
headed header = declared header [] [] []

passing_line_says : (plan : Plan) → (plan.version == 3) ≡ true → SaysLine (headed (plan.version ∷ plan.width ∷ plan.delay ∷ plan.end ∷ [])) (codes "passing") (decimal (passing_number plan.passing) ∷ []) (HeaderLine 4 (passing_number plan.passing))
passing_line_says plan wide = of_number (passing_number plan.passing) (in_range plan.passing)
  where
    in_range : (p : Bool) → is_between 0 1 (passing_number p) ≡ true
    in_range true = refl
    in_range false = refl

    of_number : (n : ℕ) → is_between 0 1 n ≡ true → SaysLine (headed (plan.version ∷ plan.width ∷ plan.delay ∷ plan.end ∷ [])) (codes "passing") (decimal n ∷ []) (HeaderLine 4 n)
    of_number n h =
        let most = (between 0 1 n h).1 in
        let low : n < 2 ^ 64 = omega (arith, most) in
        record {
          keyword = key.Header 4;
          known = ap (λ t. looked_up (if t then keywords ++ late_keywords else keywords) (codes "passing")) wide;
          first = refl;
          fits = (number_stands 0 1 n low h, refl);
          part = refl;
          said = ap (HeaderLine 4) (number-decimal n low);
        }

-- the last line is there in version 3
passing_says : (plan : Plan) (lines : List (List Word)) (ss : List Statement) → Says (headed (header_of plan)) lines ss →
    Says (headed (plan.version ∷ plan.width ∷ plan.delay ∷ plan.end ∷ [])) ((if plan.version == 3 then (number_line (codes "passing") (passing_number plan.passing) ∷ []) else []) ++ lines)
    ((if plan.version == 3 then HeaderLine 4 (passing_number plan.passing) ∷ [] else []) ++ ss)
passing_says plan lines ss rest =
    (elim (plan.version == 3) as (λ t. (plan.version == 3) ≡ t → Says (headed (plan.version ∷ plan.width ∷ plan.delay ∷ plan.end ∷ (if t then passing_number plan.passing ∷ [] else []))) lines ss → Says (headed (plan.version ∷ plan.width ∷ plan.delay ∷ plan.end ∷ [])) ((if t then (number_line (codes "passing") (passing_number plan.passing) ∷ []) else []) ++ lines) ((if t then HeaderLine 4 (passing_number plan.passing) ∷ [] else []) ++ ss)) [
      | true ↦ λ wide rest. (passing_line_says plan wide, rest)
      | false ↦ λ wide rest. rest
    ]) refl rest

version_line : (n : ℕ) → is_between 1 3 n ≡ true → SaysLine nothing_yet (codes "borealis") (decimal n ∷ []) (HeaderLine 0 n)
version_line n h =
    let most = (between 1 3 n h).1 in
    let low : n < 2 ^ 64 = omega (arith, most) in
    record { keyword = key.Header 0; known = refl; first = refl; fits = (number_stands 1 3 n low h, refl); part = refl; said = ap (HeaderLine 0) (number-decimal n low) }

width_line : (plan : Plan) → is_between 1 (if plan.version == 3 then 2 ^ 50 else 1000000) plan.width ≡ true → SaysLine (headed (plan.version ∷ [])) (codes "width") (decimal plan.width ∷ []) (HeaderLine 1 plan.width)
width_line plan h =
    let greatest = if plan.version == 3 then 2 ^ 50 else 1000000 in
    let most = (between 1 greatest plan.width h).1 in
    let few = low_width plan in
    let low : plan.width < 2 ^ 64 = omega (arith, most, few) in
    record {
      keyword = key.Header 1;
      known = known_word plan.version (codes "width") (key.Header 1) refl refl;
      first = refl;
      fits = (number_stands 1 greatest plan.width low h, refl);
      part = refl;
      said = ap (HeaderLine 1) (number-decimal plan.width low);
    }

delay_line : (v w n : ℕ) → is_between 0 (10 ^ 12) n ≡ true → SaysLine (headed (v ∷ w ∷ [])) (codes "delay") (decimal n ∷ []) (HeaderLine 2 n)
delay_line v w n h =
    let most = (between 0 (10 ^ 12) n h).1 in
    let low : n < 2 ^ 64 = omega (arith, most) in
    record {
      keyword = key.Header 2;
      known = known_word v (codes "delay") (key.Header 2) refl refl;
      first = refl;
      fits = (number_stands 0 (10 ^ 12) n low h, refl);
      part = refl;
      said = ap (HeaderLine 2) (number-decimal n low);
    }

end_line : (plan : Plan) → is_between plan.width (top plan) plan.end ≡ true → (plan.end % plan.width == 0) ≡ true → SaysLine (headed (plan.version ∷ plan.width ∷ plan.delay ∷ [])) (codes "end") (decimal plan.end ∷ []) (HeaderLine 3 plan.end)
end_line plan h whole =
    let most = (between plan.width (top plan) plan.end h).1 in
    let few = top_is_low plan in
    let low : plan.end < 2 ^ 64 = omega (arith, most, few) in
    record {
      keyword = key.Header 3;
      known = known_word plan.version (codes "end") (key.Header 3) refl refl;
      first = refl;
      fits = (multiple_stands plan.width (top plan) plan.width plan.end low h whole, refl);
      part = refl;
      said = ap (HeaderLine 3) (number-decimal plan.end low);
    }

pub header_says : (plan : Plan) (lines : List (List Word)) (ss : List Statement) → is_header_in_range plan ≡ true → Says (declared (header_of plan) [] [] []) lines ss → Says nothing_yet (header_lines plan ++ lines) (header_statements plan ++ ss)
header_says plan lines ss h rest =
    let r = header_parts plan h in
    (version_line plan.version r.version, (width_line plan r.width, (delay_line plan.version plan.width plan.delay r.delay, (end_line plan r.end r.whole, passing_says plan lines ss rest))))

-- ---- behind the header

pub whole_header : (plan : Plan) (sources : List SourceSpec) (frags : List FragSpec) (clients : List ClientSpec) → declares (declared (header_of plan) sources frags clients) ≡ true
whole_header plan sources frags clients = ap (λ t. t && true) (elim (plan.version == 3) as (λ t. (length (plan.version ∷ plan.width ∷ plan.delay ∷ plan.end ∷ (if t then passing_number plan.passing ∷ [] else [])) == (if t then 5 else 4)) ≡ true) [ true ↦ refl | false ↦ refl ])

-- ---- sources

values_back : (vals : List ℤ) → list_all is_i64 vals ≡ true → map value (map signed_decimal vals) ≡ vals
values_back [] h = refl
values_back (z ∷ vals) h =
    let p = and_parts (is_i64 z) (list_all is_i64 vals) h in
    rw ((signed_is_value z p.0).1, values_back vals p.1) refl

-- the values of an entry, of which there is one at least
entry_fits : (vals : List ℤ) → 1 ≤ length vals → length vals ≤ 8 → list_all is_i64 vals ≡ true → Fits (must Value ∷ replicate 7 (may Value)) (map signed_decimal vals)
entry_fits [] some few h = absurd (omega (arith, some))
entry_fits (z ∷ vals) some few h =
    let p = and_parts (is_i64 z) (list_all is_i64 vals) h in
    (value_stands z p.0, values_fit vals 7 (omega (arith, few)) p.1)

module _ (plan : Plan) where
  source_line_says : (done : List SourceSpec) (name : Word) (columns : ℕ) → is_name name ≡ true → is_between 1 8 columns ≡ true →
      SaysLine (declared (header_of plan) done [] []) (codes "source") (name ∷ decimal columns ∷ []) (SourceLine name columns)
  source_line_says done name columns named h =
      let most = (between 1 8 columns h).1 in
      let low : columns < 2 ^ 64 = omega (arith, most) in
      record {
        keyword = key.Source;
        known = known_word plan.version (codes "source") key.Source refl refl;
        first = refl;
        fits = (name_stands name named, (number_stands 1 8 columns low h, refl));
        part = rw (whole_header plan done [] []) refl;
        said = ap (SourceLine name) (number-decimal columns low);
      }

  log_line_says : (done : List SourceSpec) (name : Word) (t : Tuple) → is_name name ≡ true → is_log_in_range t ≡ true →
      SaysLine (declared (header_of plan) done [] []) (codes "log") (name ∷ decimal t.stime ∷ map signed_decimal t.vals) (LogLine name t.stime t.vals)
  log_line_says done name t named h =
      let a = and_parts (is_u64 t.stime && is_between 1 8 (length t.vals)) (list_all is_i64 t.vals) h in
      let b = and_parts (is_u64 t.stime) (is_between 1 8 (length t.vals)) a.0 in
      let low = ltb-true t.stime (2 ^ 64) b.0 in
      let count = between 1 8 (length t.vals) b.1 in
      record {
        keyword = key.Log;
        known = known_word plan.version (codes "log") key.Log refl refl;
        first = refl;
        fits = (name_stands name named, (natural_stands t.stime low, entry_fits t.vals count.0 count.1 a.1));
        part = rw (whole_header plan done [] []) refl;
        said = ap (λ n. LogLine name n (map value (map signed_decimal t.vals))) (number-decimal t.stime low) ∙ ap (LogLine name t.stime) (values_back t.vals a.1);
      }

  -- whatever the sources are by then
  abbrev BehindSources : List (List Word) → List Statement → Type 0
  BehindSources lines ss = (done : List SourceSpec) → Says (declared (header_of plan) done [] []) lines ss

  logs_say : (name : Word) (log : List Tuple) (lines : List (List Word)) (ss : List Statement) → is_name name ≡ true → list_all is_log_in_range log ≡ true → BehindSources lines ss →
      BehindSources (map (log_line name) log ++ lines) (map (λ (t : Tuple). LogLine name t.stime t.vals) log ++ ss)
  logs_say name [] lines ss named h rest = rest
  logs_say name (t ∷ log) lines ss named h rest =
      let p = and_parts (is_log_in_range t) (list_all is_log_in_range log) h in
      λ done. (log_line_says done name t named p.0, logs_say name log lines ss named p.1 rest _)

  pub sources_say : (sources : List SourceSpec) (lines : List (List Word)) (ss : List Statement) → list_all is_source_in_range sources ≡ true → BehindSources lines ss →
      BehindSources (flat_map source_lines sources ++ lines) (flat_map source_statements sources ++ ss)
  sources_say [] lines ss h rest = rest
  sources_say (s ∷ sources) lines ss h rest =
      let p = and_parts (is_source_in_range s) (list_all is_source_in_range sources) h in
      let q = and_parts (is_name s.name && is_between 1 8 s.columns) (list_all is_log_in_range s.log) p.0 in
      let n = and_parts (is_name s.name) (is_between 1 8 s.columns) q.0 in
      let more = sources_say sources lines ss p.1 rest in
      let logs = logs_say s.name s.log (flat_map source_lines sources ++ lines) (flat_map source_statements sources ++ ss) n.0 q.1 more in
      λ done. joined (declared (header_of plan) done [] []) (source_lines s) (flat_map source_lines sources) lines (source_statements s) (flat_map source_statements sources) ss
      (source_line_says done s.name s.columns n.0 n.1, logs _)
