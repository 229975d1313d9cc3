-- What is printed of aggregates and of keys stands at its places, and is read as these.
use Rattle.std.proofs.Common.{◌≡◌, ℕ, suc, zero, ◌+◌, ◌^◌, ◌<◌, ◌≤◌, Bool, true, false, List, [], ◌∷◌, ◌++◌, map, length, Option, Some, None, refl, ap, ◌∙◌, arith}
use Rattle.std.specs.Prelude.{◌&&◌, nat_lt, flat_map, codes, bytes_eq, unwrap_or, option_map, option_to_list}
use Rattle.std.specs.Fmt.{decimal}
use Rattle.std.proofs.Math.ListN.{replicate}
use Rattle.std.proofs.lemmas.Fmt.{decimal_digit}
use Rattle.std.proofs.lemmas.Bool.{and_parts, ltb-true, false_from_ne_true}
use Rattle.dpc_lists.specs.Lists.{list_all, is_nil, nth}
use Rattle.dpc_model.specs.Words.{Word}
use Rattle.dpc_model.specs.ScriptText.{column_word, agg_words, group_word}
use Rattle.dpc_model.specs.declared.operators.Agg.{Agg}
use Rattle.dpc_model.specs.declared.operators.Agg.TheVariants as agg
use Rattle.script_rules.specs.declared.places.Sort.{Sort}
use Rattle.script_rules.specs.declared.places.Sort.TheVariants.{Aggregate, LeftKey}
use Rattle.script_rules.specs.declared.places.Place.{Place}
use Rattle.script_rules.specs.Spelling.{number, column_of}
use Rattle.script_rules.specs.Keywords.{looked_up}
use Rattle.script_rules.specs.Symbols.{aggregates, aggs_of}
use Rattle.script_rules.specs.Statements.{pairs}
use Rattle.script_rules.specs.Places.{must, may}
use Rattle.script_rules.specs.Reasons.{agg_reads_below}
use Rattle.script_rules.specs.Checking.{is_u64}
use Rattle.script_rules.proofs.Numerals.{number-decimal, column_of-word}
use Rattle.script_rules.proofs.Apart.{same_word}
use Rattle.law_scripts.proofs.Fits.{Fits}
use Rattle.law_scripts.proofs.Placing.{column_stands, natural_stands, key_stands, none_needed}

-- ---- aggregates

pub aggs_fit : (aggs : List Agg) (n : ℕ) → length aggs ≤ n → list_all (agg_reads_below 8) aggs ≡ true → Fits (replicate n (may Aggregate)) (flat_map agg_words aggs)
aggs_fit [] n few h = none_needed Aggregate n
aggs_fit (a ∷ aggs) zero few h = absurd (omega (arith, few))
aggs_fit (agg.Count ∷ aggs) (suc n) few h = (record { plain = refl; sorted = refl; number = refl; range = refl }, aggs_fit aggs n (omega (arith, few)) h)
aggs_fit (agg.Sum c ∷ aggs) (suc n) few h =
    let p = and_parts (nat_lt c 8) (list_all (agg_reads_below 8) aggs) h in
    (record { plain = refl; sorted = refl; number = refl; range = refl }, (column_stands c (ltb-true c 8 p.0), aggs_fit aggs n (omega (arith, few)) p.1))
aggs_fit (agg.Min c ∷ aggs) (suc n) few h =
    let p = and_parts (nat_lt c 8) (list_all (agg_reads_below 8) aggs) h in
    (record { plain = refl; sorted = refl; number = refl; range = refl }, (column_stands c (ltb-true c 8 p.0), aggs_fit aggs n (omega (arith, few)) p.1))
aggs_fit (agg.Max c ∷ aggs) (suc n) few h =
    let p = and_parts (nat_lt c 8) (list_all (agg_reads_below 8) aggs) h in
    (record { plain = refl; sorted = refl; number = refl; range = refl }, (column_stands c (ltb-true c 8 p.0), aggs_fit aggs n (omega (arith, few)) p.1))

-- where a word is there, its place may as well be one where it must be
pub as_needed : (sort : Sort) (places : List Place) (ws : List Word) → is_nil ws ≡ false → Fits (may sort ∷ places) ws → Fits (must sort ∷ places) ws
as_needed sort places [] some h = absurd cc
as_needed sort places (w ∷ ws) some h = h

some_word : (a : Agg) (ws : List Word) → is_nil (agg_words a ++ ws) ≡ false
some_word agg.Count ws = refl
some_word (agg.Sum c) ws = refl
some_word (agg.Min c) ws = refl
some_word (agg.Max c) ws = refl

pub some_aggs : (aggs : List Agg) → 1 ≤ length aggs → is_nil (flat_map agg_words aggs) ≡ false
some_aggs [] some = absurd (omega (arith, some))
some_aggs (a ∷ aggs) some = some_word a (flat_map agg_words aggs)

-- a column begins no aggregate
no_aggregate : (c : ℕ) → c < 8 → looked_up aggregates (column_word c) ≡ None
no_aggregate c h =
    let digit : decimal c ≡ (48 + c) ∷ [] = decimal_digit c (omega arith) in
    let other : bytes_eq (codes "count") (column_word c) ≡ false =
    false_from_ne_true (bytes_eq (codes "count") (column_word c)) (λ e.
    let same : codes "count" ≡ 99 ∷ decimal c = same_word (codes "count") (column_word c) e in
    let lengths : 5 ≡ length (99 ∷ decimal c) = ap length same in
    let short : length (99 ∷ decimal c) ≡ 2 = ap (λ l. length (99 ∷ l)) digit in
    omega (arith, lengths, short)) in
    rw other refl

column_read : (c : ℕ) → c < 8 → unwrap_or (column_of (column_word c)) 0 ≡ c
column_read c h = ap (λ o. unwrap_or o 0) (column_of-word c h)

-- what stands behind a column's word
pub behind_column : (c : ℕ) (ws : List Word) → c < 8 → aggs_of (column_word c ∷ ws) ≡ aggs_of ws
behind_column c ws h = ap (λ o. option_to_list (option_map (λ (make : ℕ → Agg). make (unwrap_or (column_of (nth [] ws 0)) 0)) o) ++ aggs_of ws) (no_aggregate c h)

of_column : (make : ℕ → Agg) (c : ℕ) (ws : List Word) (aggs : List Agg) → c < 8 → aggs_of ws ≡ aggs → make (unwrap_or (column_of (column_word c)) 0) ∷ aggs_of (column_word c ∷ ws) ≡ make c ∷ aggs
of_column make c ws aggs h e = ap (λ n. make n ∷ aggs_of (column_word c ∷ ws)) (column_read c h) ∙ ap (λ l. make c ∷ l) (behind_column c ws h ∙ e)

pub aggs_back : (aggs : List Agg) → list_all (agg_reads_below 8) aggs ≡ true → aggs_of (flat_map agg_words aggs) ≡ aggs
aggs_back [] h = refl
aggs_back (agg.Count ∷ aggs) h = ap (λ l. agg.Count ∷ l) (aggs_back aggs h)
aggs_back (agg.Sum c ∷ aggs) h =
    let p = and_parts (nat_lt c 8) (list_all (agg_reads_below 8) aggs) h in
    of_column agg.Sum c (flat_map agg_words aggs) aggs (ltb-true c 8 p.0) (aggs_back aggs p.1)
aggs_back (agg.Min c ∷ aggs) h =
    let p = and_parts (nat_lt c 8) (list_all (agg_reads_below 8) aggs) h in
    of_column agg.Min c (flat_map agg_words aggs) aggs (ltb-true c 8 p.0) (aggs_back aggs p.1)
aggs_back (agg.Max c ∷ aggs) h =
    let p = and_parts (nat_lt c 8) (list_all (agg_reads_below 8) aggs) h in
    of_column agg.Max c (flat_map agg_words aggs) aggs (ltb-true c 8 p.0) (aggs_back aggs p.1)

pub group_back : (group : Option ℕ) → nat_lt (unwrap_or group 0) 8 ≡ true → column_of (group_word group) ≡ group
group_back None h = refl
group_back (Some c) h = column_of-word c (ltb-true c 8 h)

-- ---- keys

abbrev pub key_words : ℕ × ℕ → List Word
key_words key = decimal key.0 ∷ decimal key.1 ∷ []

abbrev pub is_key : ℕ × ℕ → Bool
is_key pair = is_u64 pair.0 && is_u64 pair.1

pub keys_fit : (keys : List (ℕ × ℕ)) (n : ℕ) → length keys ≤ n → list_all is_key keys ≡ true → Fits (replicate n (may LeftKey)) (flat_map key_words keys)
keys_fit [] n few h = none_needed LeftKey n
keys_fit (k ∷ keys) zero few h = absurd (omega (arith, few))
keys_fit (k ∷ keys) (suc n) few h =
    let p = and_parts (is_key k) (list_all is_key keys) h in
    let q = and_parts (is_u64 k.0) (is_u64 k.1) p.0 in
    (key_stands k.0 (ltb-true k.0 (2 ^ 64) q.0), (natural_stands k.1 (ltb-true k.1 (2 ^ 64) q.1), keys_fit keys n (omega (arith, few)) p.1))

pub keys_back : (keys : List (ℕ × ℕ)) → list_all is_key keys ≡ true → pairs (map number (flat_map key_words keys)) ≡ keys
keys_back [] h = refl
keys_back (k ∷ keys) h =
    let p = and_parts (is_key k) (list_all is_key keys) h in
    let q = and_parts (is_u64 k.0) (is_u64 k.1) p.0 in
    rw (number-decimal k.0 (ltb-true k.0 (2 ^ 64) q.0), number-decimal k.1 (ltb-true k.1 (2 ^ 64) q.1), keys_back keys p.1) refl
