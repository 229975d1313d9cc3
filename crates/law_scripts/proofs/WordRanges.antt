-- What words at their places say is in its range: expressions, aggregates, groups, keys and values.
use Rattle.std.proofs.Common.{◌≡◌, ℕ, zero, suc, ◌+◌, ◌^◌, ◌<◌, ◌≤◌, Bool, true, false, List, [], ◌∷◌, ◌++◌, map, length, Option, Some, None, refl, sym, ap, subst, ◌∙◌, arith, inl, inr, ◌⊎◌}
use Rattle.std.specs.Prelude.{⊤, if◌then◌else◌, not, ◌&&◌, nat_lt, codes, bytes_eq, is_some, unwrap_or, option_map, option_to_list}
use Rattle.std.proofs.Math.ListN.{replicate}
use Rattle.std.proofs.lemmas.Bool.{not-false, and_parts, and_from, ltb-true, lt-ltb}
use Rattle.dpc_lists.specs.Lists.{list_all, nth}
use Rattle.dpc_model.specs.Words.{Word}
use Rattle.dpc_model.specs.Formula.{Formula, Num, Time}
use Rattle.dpc_model.specs.declared.operators.Agg.{Agg}
use Rattle.script_rules.specs.declared.places.Sort.TheVariants.{Value, Expression, Aggregate, Column, LeftKey}
use Rattle.script_rules.specs.Spelling.{number, value, is_i64, looks_like_value, column_of}
use Rattle.script_rules.specs.Keywords.{looked_up}
use Rattle.script_rules.specs.Symbols.{Symbol, Whole, One, Two, Three, Foreign, symbols, column_or_symbol, symbol_of, operands, applied, formulas, formula_of, aggregates, aggs_of}
use Rattle.script_rules.specs.Statements.{pairs}
use Rattle.script_rules.specs.Places.{must, may}
use Rattle.script_rules.specs.Reasons.{agg_reads_below}
use Rattle.script_rules.specs.Checking.{is_u64, is_formula_in_range}
use Rattle.script_rules.proofs.Stacks.{behind}
use Rattle.law_scripts.proofs.Aggregates.{behind_column, is_key}
use Rattle.law_scripts.proofs.Filling.{Keeps, Fills}
use Rattle.law_scripts.proofs.Written.{EachRow, looked, column_back, low_key, column_behind}
use Rattle.law_scripts.proofs.Rewritten.{kept_column}

-- ---- expressions

-- a symbol makes expressions in range of such
abbrev IsSymbolInRange : Word → Symbol → Type 0
IsSymbolInRange w (Whole e) = is_formula_in_range e ≡ true
IsSymbolInRange w (One make) = (e : Formula) → is_formula_in_range e ≡ true → is_formula_in_range (make e) ≡ true
IsSymbolInRange w (Two op) = ⊤
IsSymbolInRange w Three = ⊤
IsSymbolInRange w Foreign = ⊤

each_symbol : EachRow IsSymbolInRange symbols
each_symbol = (refl, (λ e h. h, (λ e h. h, (tt, (tt, (tt, (tt, (tt, (tt, (tt, (tt, (tt, (tt, (tt, (tt, (tt, (tt, tt)))))))))))))))))

in_table : (w : Word) (o : Option Symbol) → looked_up symbols w ≡ o → IsSymbolInRange w (unwrap_or o Foreign)
in_table w None e = tt
in_table w (Some s) e = looked IsSymbolInRange symbols w s each_symbol e

column_or_table : (w : Word) (o : Option ℕ) → column_of w ≡ o → IsSymbolInRange w (column_or_symbol o w)
column_or_table w None e = in_table w (looked_up symbols w) refl
column_or_table w (Some c) e = lt-ltb c 8 (column_back w c e).low

symbol_in_range : (w : Word) → Keeps Expression w → IsSymbolInRange w (symbol_of w)
symbol_in_range w k =
    (elim (looks_like_value w) as (λ t. (t && not (is_i64 (value w))) ≡ false → IsSymbolInRange w (if t then Whole (Num (value w)) else column_or_symbol (column_of w) w)) [
      | true ↦ λ r. not-false (is_i64 (value w)) r
      | false ↦ λ r. column_or_table w (column_of w) refl
    ]) k.range

abbrev are_in_range : List Formula → Bool
are_in_range es = list_all is_formula_in_range es

applied_in_range : (w : Word) (s : Symbol) (es : List Formula) → IsSymbolInRange w s → are_in_range es ≡ true → are_in_range (applied s es) ≡ true
applied_in_range w (Whole e) es h k = and_from (is_formula_in_range e) (are_in_range es) h k
applied_in_range w (One make) [] h k = refl
applied_in_range w (One make) (e ∷ es) h k =
    let p = and_parts (is_formula_in_range e) (are_in_range es) k in
    and_from (is_formula_in_range (make e)) (are_in_range es) (h e p.0) p.1
applied_in_range w (Two op) [] h k = refl
applied_in_range w (Two op) (d ∷ []) h k = refl
applied_in_range w (Two op) (d ∷ e ∷ es) h k =
    let p = and_parts (is_formula_in_range d) (are_in_range (e ∷ es)) k in
    let q = and_parts (is_formula_in_range e) (are_in_range es) p.1 in
    and_from (is_formula_in_range d && is_formula_in_range e) (are_in_range es) (and_from (is_formula_in_range d) (is_formula_in_range e) p.0 q.0) q.1
applied_in_range w Three [] h k = refl
applied_in_range w Three (c ∷ []) h k = refl
applied_in_range w Three (c ∷ d ∷ []) h k = refl
applied_in_range w Three (c ∷ d ∷ e ∷ es) h k =
    let p = and_parts (is_formula_in_range c) (are_in_range (d ∷ e ∷ es)) k in
    let q = and_parts (is_formula_in_range d) (are_in_range (e ∷ es)) p.1 in
    let r = and_parts (is_formula_in_range e) (are_in_range es) q.1 in
    rw (p.0, q.0, r.0, r.1) refl
applied_in_range w Foreign es h k = refl

pub formulas_in_range : (n : ℕ) (ws : List Word) → Fills (replicate n (must Expression)) ws → list_all is_formula_in_range (formulas ws) ≡ true
formulas_in_range n [] h = refl
formulas_in_range zero (w ∷ ws) h = absurd h
formulas_in_range (suc n) (w ∷ ws) h =
    let rest : Fills (replicate (operands (symbol_of w) + n) (must Expression)) ws = subst (λ places. Fills places ws) (behind w n) h.1 in
    applied_in_range w (symbol_of w) (formulas ws) (symbol_in_range w h.0) (formulas_in_range (operands (symbol_of w) + n) ws rest)

first_in_range : (es : List Formula) → list_all is_formula_in_range es ≡ true → is_formula_in_range (nth Time es 0) ≡ true
first_in_range [] h = refl
first_in_range (e ∷ es) h = (and_parts (is_formula_in_range e) (list_all is_formula_in_range es) h).0

pub formula_in_range : (ws : List Word) → Fills (must Expression ∷ []) ws → is_formula_in_range (formula_of ws) ≡ true
formula_in_range ws h = first_in_range (formulas ws) (formulas_in_range 1 ws h)

-- ---- groups

group_low : (w : Word) (o : Option ℕ) → column_of w ≡ o → nat_lt (unwrap_or o 0) 8 ≡ true
group_low w None e = refl
group_low w (Some c) e = lt-ltb c 8 (column_back w c e).low

pub group_in_range : (w : Word) → nat_lt (unwrap_or (column_of w) 0) 8 ≡ true
group_in_range w = group_low w (column_of w) refl

-- ---- values

pub record AreValues (n : ℕ) (ws : List Word) : Type 0 where
  pub range : list_all is_i64 (map value ws) ≡ true
  pub few : length ws ≤ n

pub values_in_range : (n : ℕ) (ws : List Word) → Fills (replicate n (may Value)) ws → AreValues n ws
values_in_range n [] h = record { range = refl; few = omega arith }
values_in_range zero (w ∷ ws) h = absurd h
values_in_range (suc n) (w ∷ ws) h =
    let here : is_i64 (value w) ≡ true = not-false (is_i64 (value w)) h.0.range in
    let more = values_in_range n ws h.1 in
    let few = more.few in
    record { range = and_from (is_i64 (value w)) (list_all is_i64 (map value ws)) here more.range; few = omega (arith, few) }

-- ---- keys

pub low_keys : (left right : ℕ) (keys : List (ℕ × ℕ)) → left ≤ 8 → right ≤ 8 → list_all (λ (pair : ℕ × ℕ). nat_lt pair.0 left && nat_lt pair.1 right) keys ≡ true → list_all is_key keys ≡ true
low_keys left right [] a b h = refl
low_keys left right (k ∷ keys) a b h =
    let p = and_parts (low_key left right k) (list_all (low_key left right) keys) h in
    let q = and_parts (nat_lt k.0 left) (nat_lt k.1 right) p.0 in
    let first = ltb-true k.0 left q.0 in
    let second = ltb-true k.1 right q.1 in
    let one : is_u64 k.0 ≡ true = lt-ltb k.0 (2 ^ 64) (omega (arith, first, a)) in
    let two : is_u64 k.1 ≡ true = lt-ltb k.1 (2 ^ 64) (omega (arith, second, b)) in
    rw (one, two, low_keys left right keys a b p.1) refl

pub few_keys : (n : ℕ) (ws : List Word) → Fills (replicate n (may LeftKey)) ws → length (pairs (map number ws)) ≤ n
few_keys n [] h = omega arith
few_keys zero (w ∷ ws) h = absurd h
few_keys (suc n) (w ∷ []) h = omega arith
few_keys (suc n) (w ∷ v ∷ ws) h = let more = few_keys n ws h.1.1 in omega (arith, more)

-- ---- aggregates

-- a word by itself, or one before the column that it takes
abbrev IsAggregate : Word → (ℕ → Agg) → Type 0
IsAggregate w make = ((bytes_eq w (codes "count") ≡ true) ⊎ (bytes_eq w (codes "count") ≡ false)) × ((c : ℕ) → c < 8 → agg_reads_below 8 (make c) ≡ true)

each_aggregate : EachRow IsAggregate aggregates
each_aggregate = ((inl refl, λ c h. refl), ((inr refl, λ c h. lt-ltb c 8 h), ((inr refl, λ c h. lt-ltb c 8 h), ((inr refl, λ c h. lt-ltb c 8 h), tt))))

pub record AreAggregates (n : ℕ) (ws : List Word) : Type 0 where
  pub range : list_all (agg_reads_below 8) (aggs_of ws) ≡ true
  pub few : length (aggs_of ws) ≤ n

abbrev pub AllAggregates : ℕ → Type 0
AllAggregates n = (ws : List Word) → Fills (replicate n (may Aggregate)) ws → AreAggregates n ws

low_column : (w : Word) (o : Option ℕ) → column_of w ≡ o → unwrap_or o 0 < 8
low_column w None e = omega arith
low_column w (Some c) e = (column_back w c e).low

low_behind : (ws : List Word) → column_behind ws < 8
low_behind ws = low_column (nth [] ws 0) (column_of (nth [] ws 0)) refl

-- one more, in front
with_aggregate : (n : ℕ) (a : Agg) (ws : List Word) → agg_reads_below 8 a ≡ true → AreAggregates n ws → (list_all (agg_reads_below 8) (a ∷ aggs_of ws) ≡ true) × (length (a ∷ aggs_of ws) ≤ suc n)
with_aggregate n a ws h k =
    let few = k.few in
    (and_from (agg_reads_below 8 a) (list_all (agg_reads_below 8) (aggs_of ws)) h k.range, omega (arith, few))

-- what a column's word leaves
behind_it : (n : ℕ) → AllAggregates n → (ws : List Word) → Fills (must Column ∷ replicate n (may Aggregate)) ws → AreAggregates n ws
behind_it n all [] h = absurd cc
behind_it n all (v ∷ ws) h =
    let column = kept_column v h.0 in
    let c : ℕ = unwrap_or (column_of v) 0 in
    let rest : aggs_of (v ∷ ws) ≡ aggs_of ws = ap (λ x. aggs_of (x ∷ ws)) column.spelled ∙ behind_column c ws column.low in
    let more = all ws h.1 in
    record { range = ap (list_all (agg_reads_below 8)) rest ∙ more.range; few = subst (λ l. length l ≤ n) (sym rest) more.few }

behind_word : (n : ℕ) → AllAggregates n → (w : Word) (ws : List Word) → (bytes_eq w (codes "count") ≡ true) ⊎ (bytes_eq w (codes "count") ≡ false) → Fills ((if bytes_eq w (codes "count") then [] else must Column ∷ []) ++ replicate n (may Aggregate)) ws → AreAggregates n ws
behind_word n all w ws (inl is) h = all ws (subst (λ t. Fills ((if t then [] else must Column ∷ []) ++ replicate n (may Aggregate)) ws) is h)
behind_word n all w ws (inr is) h = behind_it n all ws (subst (λ t. Fills ((if t then [] else must Column ∷ []) ++ replicate n (may Aggregate)) ws) is h)

-- a word that begins an aggregate, and those behind it
abbrev aggs_with : Option (ℕ → Agg) → List Word → List Agg
aggs_with o ws = option_to_list (option_map (λ (make : ℕ → Agg). make (column_behind ws)) o) ++ aggs_of ws

known_in_range : (n : ℕ) → AllAggregates n → (w : Word) (o : Option (ℕ → Agg)) (ws : List Word) → looked_up aggregates w ≡ o → is_some o ≡ true → Fills ((if bytes_eq w (codes "count") then [] else must Column ∷ []) ++ replicate n (may Aggregate)) ws →
    (list_all (agg_reads_below 8) (aggs_with o ws) ≡ true) × (length (aggs_with o ws) ≤ suc n)
known_in_range n all w None ws e some h = absurd cc
known_in_range n all w (Some make) ws e some h =
    let is = looked IsAggregate aggregates w make each_aggregate e in
    with_aggregate n (make (column_behind ws)) ws (is.1 (column_behind ws) (low_behind ws)) (behind_word n all w ws is.0 h)

pub aggs_in_range : (n : ℕ) → AllAggregates n
aggs_in_range n [] h = record { range = refl; few = omega arith }
aggs_in_range zero (w ∷ ws) h = absurd h
aggs_in_range (suc n) (w ∷ ws) h =
    let r = known_in_range n (aggs_in_range n) w (looked_up aggregates w) ws refl (not-false (is_some (looked_up aggregates w)) h.0.sorted) h.1 in
    record { range = r.0; few = r.1 }

-- a first word gives an aggregate
one_at_least : (o : Option (ℕ → Agg)) (ws : List Word) → is_some o ≡ true → 1 ≤ length (aggs_with o ws)
one_at_least None ws h = absurd cc
one_at_least (Some make) ws h = omega arith

pub some_aggregate : (n : ℕ) (ws : List Word) → Fills (must Aggregate ∷ replicate n (may Aggregate)) ws → 1 ≤ length (aggs_of ws)
some_aggregate n [] h = absurd cc
some_aggregate n (w ∷ ws) h = one_at_least (looked_up aggregates w) ws (not-false (is_some (looked_up aggregates w)) h.0.sorted)
