-- What is read of the words of aggregates, groups, keys and values is written by these words.
use Rattle.std.proofs.Common.{◌≡◌, ℕ, zero, suc, ◌≤◌, Bool, true, false, List, [], ◌∷◌, ◌++◌, map, Option, Some, None, refl, sym, ap, subst, ◌∙◌, arith, inl, inr, ◌⊎◌}
use Rattle.std.specs.Prelude.{if◌then◌else◌, ◌||◌, nat_lt, flat_map, codes, bytes_eq, is_some, unwrap_or, option_map, option_to_list}
use Rattle.std.specs.Fmt.{decimal, signed_decimal}
use Rattle.std.proofs.Math.ListN.{replicate}
use Rattle.std.proofs.lemmas.Bool.{not-false, and_parts, ltb-true}
use Rattle.dpc_lists.specs.Lists.{list_all}
use Rattle.dpc_model.specs.Words.{Word}
use Rattle.dpc_model.specs.ScriptText.{column_word, agg_words, group_word}
use Rattle.dpc_model.specs.declared.operators.Agg.{Agg}
use Rattle.dpc_model.specs.declared.operators.Agg.TheVariants as agg
use Rattle.script_rules.specs.declared.places.Sort.TheVariants.{Value, Group, Aggregate, Column, LeftKey}
use Rattle.script_rules.specs.Spelling.{number, is_value, value, is_i64, column_of}
use Rattle.script_rules.specs.Keywords.{looked_up}
use Rattle.script_rules.specs.Symbols.{aggregates, aggs_of}
use Rattle.script_rules.specs.Statements.{pairs}
use Rattle.script_rules.specs.Places.{must, may}
use Rattle.script_rules.proofs.Apart.{same_word}
use Rattle.law_scripts.proofs.Aggregates.{key_words, behind_column}
use Rattle.law_scripts.proofs.Filling.{Keeps, Fills, numeral_back}
use Rattle.law_scripts.proofs.Written.{EachRow, looked, value_back, IsColumn, column_back, low_key, column_behind}

-- ---- columns and groups

some_column : (w : Word) (o : Option ℕ) → column_of w ≡ o → is_some o ≡ true → IsColumn w (unwrap_or o 0)
some_column w None e h = absurd cc
some_column w (Some c) e h = column_back w c e

pub kept_column : (w : Word) → Keeps Column w → IsColumn w (unwrap_or (column_of w) 0)
kept_column w k = some_column w (column_of w) refl (not-false (is_some (column_of w)) k.sorted)

group_or_none : (w : Word) (o : Option ℕ) → column_of w ≡ o → (bytes_eq w (codes "-") || is_some o) ≡ true → group_word o ≡ w
group_or_none w None e h = sym (same_word w (codes "-") (left (bytes_eq w (codes "-")) h))
  where
    left : (b : Bool) → (b || false) ≡ true → b ≡ true
    left true h = refl
    left false h = h
group_or_none w (Some c) e h = sym (column_back w c e).spelled

pub group_written : (w : Word) → Keeps Group w → group_word (column_of w) ≡ w
group_written w k = group_or_none w (column_of w) refl (not-false (bytes_eq w (codes "-") || is_some (column_of w)) k.sorted)

-- ---- values

pub values_written : (n : ℕ) (ws : List Word) → Fills (replicate n (may Value)) ws → map signed_decimal (map value ws) ≡ ws
values_written n [] h = refl
values_written zero (w ∷ ws) h = absurd h
values_written (suc n) (w ∷ ws) h =
    rw (sym (value_back w (not-false (is_value w) h.0.number) (not-false (is_i64 (value w)) h.0.range)), values_written n ws h.1) refl

-- ---- keys

pub keys_written : (n left right : ℕ) (ws : List Word) → left ≤ 8 → right ≤ 8 → Fills (replicate n (may LeftKey)) ws → list_all (low_key left right) (pairs (map number ws)) ≡ true → flat_map key_words (pairs (map number ws)) ≡ ws
keys_written n left right [] a b h k = refl
keys_written zero left right (w ∷ ws) a b h k = absurd h
keys_written (suc n) left right (w ∷ []) a b h k = absurd cc
keys_written (suc n) left right (w ∷ v ∷ ws) a b h k =
    let p = and_parts (low_key left right (number w, number v)) (list_all (low_key left right) (pairs (map number ws))) k in
    let q = and_parts (nat_lt (number w) left) (nat_lt (number v) right) p.0 in
    let first = ltb-true (number w) left q.0 in
    let second = ltb-true (number v) right q.1 in
    let w_is : w ≡ decimal (number w) = numeral_back w h.0.number (omega (arith, first, a)) in
    let v_is : v ≡ decimal (number v) = numeral_back v h.1.0.number (omega (arith, second, b)) in
    ap (λ l. decimal (number w) ∷ decimal (number v) ∷ l) (keys_written n left right ws a b h.1.1 p.1)
    ∙ ap (λ x. x ∷ decimal (number v) ∷ ws) (sym w_is) ∙ ap (λ x. w ∷ x ∷ ws) (sym v_is)

-- ---- aggregates

-- a word by itself, or one before the column that it takes
abbrev IsAggregate : Word → (ℕ → Agg) → Type 0
IsAggregate w make =
    ((w ≡ codes "count") × ((c : ℕ) → make c ≡ agg.Count)) ⊎ ((bytes_eq w (codes "count") ≡ false) × ((c : ℕ) → agg_words (make c) ≡ w ∷ column_word c ∷ []))

each_aggregate : EachRow IsAggregate aggregates
each_aggregate = (inl (refl, λ c. refl), (inr (refl, λ c. refl), (inr (refl, λ c. refl), (inr (refl, λ c. refl), tt))))

abbrev AreWritten : ℕ → Type 0
AreWritten n = (ws : List Word) → Fills (replicate n (may Aggregate)) ws → flat_map agg_words (aggs_of ws) ≡ ws

with_column : (n : ℕ) → AreWritten n → (w : Word) (make : ℕ → Agg) (ws : List Word) → ((c : ℕ) → agg_words (make c) ≡ w ∷ column_word c ∷ []) → Fills (must Column ∷ replicate n (may Aggregate)) ws →
    flat_map agg_words (make (column_behind ws) ∷ aggs_of ws) ≡ w ∷ ws
with_column n all w make [] spelled h = absurd cc
with_column n all w make (v ∷ ws) spelled h =
    let column = kept_column v h.0 in
    let c : ℕ = unwrap_or (column_of v) 0 in
    let rest : aggs_of (v ∷ ws) ≡ aggs_of ws = ap (λ x. aggs_of (x ∷ ws)) column.spelled ∙ behind_column c ws column.low in
    ap (λ l. l ++ flat_map agg_words (aggs_of (v ∷ ws))) (spelled c) ∙ ap (λ l. w ∷ column_word c ∷ flat_map agg_words l) rest ∙ ap (λ l. w ∷ column_word c ∷ l) (all ws h.1)
    ∙ ap (λ x. w ∷ x ∷ ws) (sym column.spelled)

one_written : (n : ℕ) → AreWritten n → (w : Word) (make : ℕ → Agg) (ws : List Word) → IsAggregate w make → Fills ((if bytes_eq w (codes "count") then [] else must Column ∷ []) ++ replicate n (may Aggregate)) ws →
    flat_map agg_words (make (column_behind ws) ∷ aggs_of ws) ≡ w ∷ ws
one_written n all w make ws (inl a) h =
    let alone : bytes_eq w (codes "count") ≡ true = ap (λ v. bytes_eq v (codes "count")) a.0 in
    let rest : Fills (replicate n (may Aggregate)) ws = subst (λ t. Fills ((if t then [] else must Column ∷ []) ++ replicate n (may Aggregate)) ws) alone h in
    ap (λ x. agg_words x ++ flat_map agg_words (aggs_of ws)) (a.1 (column_behind ws)) ∙ ap (λ l. codes "count" ∷ l) (all ws rest) ∙ ap (λ v. v ∷ ws) (sym a.0)
one_written n all w make ws (inr a) h = with_column n all w make ws a.1 (subst (λ t. Fills ((if t then [] else must Column ∷ []) ++ replicate n (may Aggregate)) ws) a.0 h)

known_written : (n : ℕ) → AreWritten n → (w : Word) (o : Option (ℕ → Agg)) (ws : List Word) → looked_up aggregates w ≡ o → is_some o ≡ true → Fills ((if bytes_eq w (codes "count") then [] else must Column ∷ []) ++ replicate n (may Aggregate)) ws →
    flat_map agg_words (option_to_list (option_map (λ (make : ℕ → Agg). make (column_behind ws)) o) ++ aggs_of ws) ≡ w ∷ ws
known_written n all w None ws e some h = absurd cc
known_written n all w (Some make) ws e some h = one_written n all w make ws (looked IsAggregate aggregates w make each_aggregate e) h

pub aggs_written : (n : ℕ) → AreWritten n
aggs_written n [] h = refl
aggs_written zero (w ∷ ws) h = absurd h
aggs_written (suc n) (w ∷ ws) h = known_written n (aggs_written n) w (looked_up aggregates w) ws refl (not-false (is_some (looked_up aggregates w)) h.0.sorted) h.1
