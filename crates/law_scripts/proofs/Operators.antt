-- An operator's line says that operator.
use Rattle.std.proofs.Common.{◌≡◌, ℕ, ◌≤◌, true, false, List, [], ◌∷◌, ◌++◌, map, length, Option, Some, None, refl, sym, ap, subst, ◌∙◌, arith}
use Rattle.std.specs.Prelude.{not, ◌&&◌, ◌==◌, nat_lt, flat_map, codes, unwrap_or, if◌then◌else◌}
use Rattle.std.specs.Fmt.{decimal}
use Rattle.std.proofs.Math.ListN.{replicate}
use Rattle.std.proofs.lemmas.Bool.{and_parts, ltb-true, eqb-true}
use Rattle.std.proofs.lemmas.List.{append-nil}
use Rattle.dpc_lists.specs.Lists.{list_all, is_nil, nth}
use Rattle.dpc_model.specs.Words.{Word}
use Rattle.dpc_model.specs.ScriptText.{formula_words, agg_words, group_word, kind_word, kind_words}
use Rattle.dpc_model.specs.Formula.{Formula}
use Rattle.dpc_model.specs.Formula as formula
use Rattle.dpc_model.specs.declared.operators.Agg.{Agg}
use Rattle.dpc_model.specs.declared.operators.OpKind.{OpKind}
use Rattle.dpc_model.specs.declared.operators.OpKind.TheVariants as kind
use Rattle.dpc_model.specs.declared.plans.Plan.{Plan}
use Rattle.script_rules.specs.declared.keywords.Keyword.{Keyword}
use Rattle.script_rules.specs.declared.keywords.Keyword.TheVariants as key
use Rattle.script_rules.specs.declared.places.Sort.TheVariants.{Range, Group, Aggregate}
use Rattle.script_rules.specs.Spelling.{is_name, number, column_of}
use Rattle.script_rules.specs.Keywords.{keywords, late_keywords, looked_up, keyword_of}
use Rattle.script_rules.specs.Symbols.{formulas, aggs_of}
use Rattle.script_rules.specs.Statements.{OperatorLine, pairs}
use Rattle.script_rules.specs.Places.{may, is_between}
use Rattle.script_rules.specs.Drafts.{Draft, version_of, greatest_end}
use Rattle.script_rules.specs.Reasons.{declares, agg_reads_below}
use Rattle.script_rules.specs.Checking.{top, is_formula_in_range, are_inputs_in_range, is_kind_in_range}
use Rattle.script_rules.proofs.Numerals.{number-decimal}
use Rattle.script_rules.proofs.Spelled.{reads_expressions}
use Rattle.script_rules.proofs.Ranges.{between, top_is_low}
use Rattle.law_scripts.proofs.Fits.{Stands}
use Rattle.law_scripts.proofs.Says.{SaysLine}
use Rattle.law_scripts.proofs.Placing.{name_stands, number_stands, group_stands, no_group_stands, names_fit}
use Rattle.law_scripts.proofs.Formulas.{one_formula_fits, count_fits}
use Rattle.law_scripts.proofs.Aggregates.{aggs_fit, as_needed, some_aggs, aggs_back, group_back, keys_fit, keys_back, key_words, is_key}

-- a first word of all versions
pub known_word : (version : ℕ) (w : Word) (k : Keyword) → looked_up keywords w ≡ Some k → looked_up (keywords ++ late_keywords) w ≡ Some k → keyword_of version w ≡ Some k
known_word version w k h l = elim (version == 3) as (λ t. looked_up (if t then keywords ++ late_keywords else keywords) w ≡ Some k) [ true ↦ l | false ↦ h ]

-- where an operator may stand
pub record TakesOperators (plan : Plan) (d : Draft) : Type 0 where
  pub part : (declares d && not (is_nil d.frags) && is_nil d.clients) ≡ true
  pub end : greatest_end d ≡ top plan

-- a number up to the greatest end
pub wide_stands : (plan : Plan) (d : Draft) (low n : ℕ) → greatest_end d ≡ top plan → is_between low (top plan) n ≡ true → Stands (Range low (greatest_end d)) (decimal n)
wide_stands plan d low n e h =
    let most = (between low (top plan) n h).1 in
    let few = top_is_low plan in
    subst (λ m. Stands (Range low m) (decimal n)) (sym e) (number_stands low (top plan) n (omega (arith, most, few)) h)

wide_back : (plan : Plan) (low n : ℕ) → is_between low (top plan) n ≡ true → number (decimal n) ≡ n
wide_back plan low n h =
    let most = (between low (top plan) n h).1 in
    let few = top_is_low plan in
    number-decimal n (omega (arith, most, few))

group_fits : (group : Option ℕ) → nat_lt (unwrap_or group 0) 8 ≡ true → Stands Group (group_word group)
group_fits None h = no_group_stands
group_fits (Some c) h = group_stands (Some c) c refl (ltb-true c 8 h)

not_one : (a b : Word) (ws : List Word) → (length (a ∷ b ∷ ws) == 1) ≡ true → ⊥
not_one a b ws h = let one : length (a ∷ b ∷ ws) ≡ 1 = eqb-true _ 1 h in omega (arith, one)

module _ (plan : Plan) (d : Draft) (t : TakesOperators plan d) (name : Word) (named : is_name name ≡ true) where
  filter_line : (e : Formula) (i : Word) → is_name i ≡ true → is_formula_in_range e ≡ true → SaysLine d (codes "filter") (name ∷ i ∷ formula_words e) (OperatorLine name (i ∷ []) (kind.Filter e))
  filter_line e i h r =
      let one : (is_formula_in_range e && true) ≡ true = rw r refl in
      let read : formulas (formula_words e) ≡ e ∷ [] = ap formulas (sym (append-nil (formula_words e))) ∙ reads_expressions (e ∷ []) one in
      record {
        keyword = key.Filter;
        known = known_word (version_of d) (codes "filter") key.Filter refl refl;
        first = refl;
        fits = (name_stands name named, (name_stands i h, one_formula_fits e r));
        part = t.part;
        said = ap (λ es. OperatorLine name (i ∷ []) (kind.Filter (nth formula.Time es 0))) read;
      }

  map_line : (es : List Formula) (i : Word) → is_name i ≡ true → is_between 1 8 (length es) ≡ true → list_all is_formula_in_range es ≡ true →
      SaysLine d (codes "map") (name ∷ i ∷ decimal (length es) ∷ flat_map formula_words es) (OperatorLine name (i ∷ []) (kind.Map es))
  map_line es i h few r =
      record {
        keyword = key.Map;
        known = known_word (version_of d) (codes "map") key.Map refl refl;
        first = refl;
        fits = (name_stands name named, (name_stands i h, count_fits es few r));
        part = t.part;
        said = ap (λ l. OperatorLine name (i ∷ []) (kind.Map l)) (reads_expressions es r);
      }

  union_line : (i j : Word) (ws : List Word) → is_name i ≡ true → is_name j ≡ true → length ws ≤ 6 → list_all is_name ws ≡ true → SaysLine d (codes "union") (name ∷ i ∷ j ∷ ws) (OperatorLine name (i ∷ j ∷ ws) kind.Union)
  union_line i j ws h k few r =
      record {
        keyword = key.Union;
        known = known_word (version_of d) (codes "union") key.Union refl refl;
        first = refl;
        fits = (name_stands name named, (name_stands i h, (name_stands j k, names_fit ws 6 few r)));
        part = t.part;
        said = refl;
      }

  join_line : (within : ℕ) (keys : List (ℕ × ℕ)) (i j : Word) → is_name i ≡ true → is_name j ≡ true → is_between 0 (top plan) within ≡ true → length keys ≤ 8 → list_all is_key keys ≡ true →
      SaysLine d (codes "join") (name ∷ i ∷ j ∷ decimal within ∷ flat_map key_words keys) (OperatorLine name (i ∷ j ∷ []) (kind.Join within keys))
  join_line within keys i j h k low few r =
      record {
        keyword = key.Join;
        known = known_word (version_of d) (codes "join") key.Join refl refl;
        first = refl;
        fits = (name_stands name named, (name_stands i h, (name_stands j k, (wide_stands plan d 0 within t.end low, keys_fit keys 8 few r))));
        part = t.part;
        said =
            ap (λ n. OperatorLine name (i ∷ j ∷ []) (kind.Join n (pairs (map number (flat_map key_words keys))))) (wide_back plan 0 within low)
            ∙ ap (λ l. OperatorLine name (i ∷ j ∷ []) (kind.Join within l)) (keys_back keys r);
      }

  aggregate_line : (size step : ℕ) (group : Option ℕ) (aggs : List Agg) (i : Word) → is_name i ≡ true → is_between 1 (top plan) size ≡ true → is_between 1 (top plan) step ≡ true → nat_lt (unwrap_or group 0) 8 ≡ true →
      is_between 1 8 (length aggs) ≡ true → list_all (agg_reads_below 8) aggs ≡ true →
      SaysLine d (codes "aggregate") (name ∷ i ∷ decimal size ∷ decimal step ∷ group_word group ∷ flat_map agg_words aggs) (OperatorLine name (i ∷ []) (kind.Aggregate size step group aggs))
  aggregate_line size step group aggs i h sizes steps groups few r =
      let count = between 1 8 (length aggs) few in
      let all = as_needed Aggregate (replicate 7 (may Aggregate)) (flat_map agg_words aggs) (some_aggs aggs count.0) (aggs_fit aggs 8 count.1 r) in
      record {
        keyword = key.Aggregate;
        known = known_word (version_of d) (codes "aggregate") key.Aggregate refl refl;
        first = refl;
        fits =
            (name_stands name named, (name_stands i h, (wide_stands plan d 1 size t.end sizes, (wide_stands plan d 1 step t.end steps, (group_fits group groups, all)))));
        part = t.part;
        said =
            ap (λ n. OperatorLine name (i ∷ []) (kind.Aggregate n (number (decimal step)) (column_of (group_word group)) (aggs_of (flat_map agg_words aggs)))) (wide_back plan 1 size sizes)
            ∙ ap (λ n. OperatorLine name (i ∷ []) (kind.Aggregate size n (column_of (group_word group)) (aggs_of (flat_map agg_words aggs)))) (wide_back plan 1 step steps)
            ∙ ap (λ o. OperatorLine name (i ∷ []) (kind.Aggregate size step o (aggs_of (flat_map agg_words aggs)))) (group_back group groups)
            ∙ ap (λ l. OperatorLine name (i ∷ []) (kind.Aggregate size step group l)) (aggs_back aggs r);
      }

  pub operator_line_says : (k : OpKind) (inputs : List Word) → list_all is_name inputs ≡ true → are_inputs_in_range k (length inputs) ≡ true → is_kind_in_range plan k ≡ true →
      SaysLine d (kind_word k) (name ∷ inputs ++ kind_words k) (OperatorLine name inputs k)
  operator_line_says (kind.Filter e) [] names many h = absurd cc
  operator_line_says (kind.Filter e) (i ∷ []) names many h = filter_line e i (and_parts (is_name i) true names).0 h
  operator_line_says (kind.Filter e) (i ∷ j ∷ ws) names many h = absurd (not_one i j ws many)
  operator_line_says (kind.Map es) [] names many h = absurd cc
  operator_line_says (kind.Map es) (i ∷ []) names many h =
      let p = and_parts (is_between 1 8 (length es)) (list_all is_formula_in_range es) h in
      map_line es i (and_parts (is_name i) true names).0 p.0 p.1
  operator_line_says (kind.Map es) (i ∷ j ∷ ws) names many h = absurd (not_one i j ws many)
  operator_line_says kind.Union [] names many h = absurd cc
  operator_line_says kind.Union (i ∷ []) names many h = absurd cc
  operator_line_says kind.Union (i ∷ j ∷ ws) names many h =
      let most = (between 2 8 (length (i ∷ j ∷ ws)) many).1 in
      let p = and_parts (is_name i) (list_all is_name (j ∷ ws)) names in
      let q = and_parts (is_name j) (list_all is_name ws) p.1 in
      let line = union_line i j ws p.0 q.0 (omega (arith, most)) q.1 in
      subst (λ l. SaysLine d (codes "union") (name ∷ i ∷ j ∷ l) (OperatorLine name (i ∷ j ∷ ws) kind.Union)) (sym (append-nil ws)) line
  operator_line_says (kind.Join within keys) [] names many h = absurd cc
  operator_line_says (kind.Join within keys) (i ∷ []) names many h = absurd cc
  operator_line_says (kind.Join within keys) (i ∷ j ∷ []) names many h =
      let p = and_parts (is_between 0 (top plan) within && is_between 0 8 (length keys)) (list_all is_key keys) h in
      let q = and_parts (is_between 0 (top plan) within) (is_between 0 8 (length keys)) p.0 in
      let n = and_parts (is_name i) (is_name j && true) names in
      join_line within keys i j n.0 (and_parts (is_name j) true n.1).0 q.0 (between 0 8 (length keys) q.1).1 p.1
  operator_line_says (kind.Join within keys) (i ∷ j ∷ x ∷ ws) names many h =
      let two : length (i ∷ j ∷ x ∷ ws) ≡ 2 = eqb-true _ 2 many in
      absurd (omega (arith, two))
  operator_line_says (kind.Aggregate size step group aggs) [] names many h = absurd cc
  operator_line_says (kind.Aggregate size step group aggs) (i ∷ []) names many h =
      let sizes = is_between 1 (top plan) size in
      let steps = is_between 1 (top plan) step in
      let groups = nat_lt (unwrap_or group 0) 8 in
      let few = is_between 1 8 (length aggs) in
      let a = and_parts (sizes && steps && groups && few) (list_all (agg_reads_below 8) aggs) h in
      let b = and_parts (sizes && steps && groups) few a.0 in
      let c = and_parts (sizes && steps) groups b.0 in
      let s = and_parts sizes steps c.0 in
      aggregate_line size step group aggs i (and_parts (is_name i) true names).0 s.0 s.1 c.1 b.1 a.1
  operator_line_says (kind.Aggregate size step group aggs) (i ∷ j ∷ ws) names many h = absurd (not_one i j ws many)
