-- A line against which no reason applies stands in its part, with numbers and counts in their ranges.
use Rattle.std.proofs.Common.{◌≡◌, ℕ, zero, suc, ◌-◌, ◌^◌, ◌/◌, ◌%◌, ◌<◌, ◌≤◌, Bool, true, false, List, [], ◌∷◌, ◌++◌, length, Some, refl, ap, subst, arith}
use Rattle.std.specs.Prelude.{not, ◌&&◌, ◌==◌, nat_lt, nat_le, if◌then◌else◌, replicate, find, option_map, bytes_eq, drop}
use Rattle.std.proofs.lemmas.Bool.{and_parts, or_parts, not-false, ltb-false, ltb-true, eqb-true, ne_eqb, le-leb}
use Rattle.dpc_lists.specs.Lists.{nth, list_all, list_any, is_nil}
use Rattle.dpc_model.specs.Words.{Word}
use Rattle.script_rules.specs.declared.keywords.Keyword.{Keyword}
use Rattle.script_rules.specs.declared.keywords.Keyword.TheVariants as key
use Rattle.script_rules.specs.declared.places.Sort.{Sort}
use Rattle.script_rules.specs.declared.places.Sort.TheVariants.{Name, Anything}
use Rattle.script_rules.specs.Keywords.{keywords, late_keywords, looked_up, keyword_of}
use Rattle.script_rules.specs.Places.{must, may, is_between, is_out_of_range, leaves_over, placed, opened, header_sorts}
use Rattle.script_rules.specs.Spelling.{number}
use Rattle.script_rules.specs.Statements.{HeaderLine, statement_of}
use Rattle.script_rules.specs.Drafts.{Draft, version_of, is_wide, has_header, greatest_end}
use Rattle.script_rules.specs.Reasons.{has_wrong_length, is_past_range, is_out_of_part, declares, runs, is_fresh, passes_limit}
use Rattle.script_rules.proofs.Passing.{IsFine}
use Rattle.script_rules.proofs.Headers.{declared}
use Rattle.script_rules.proofs.Ranges.{between}
use Rattle.script_rules.proofs.Formed.{IsNext, IsPlaced}

-- ---- the header's keywords

-- a header line of a place below the n-th one, or none of the header
abbrev pub is_header_below : ℕ → Keyword → Bool
is_header_below n (key.Header place) = nat_lt place n
is_header_below n _ = true

passes_lookup : (p : Keyword → Bool) (table : List (Word × Keyword)) (w : Word) (k : Keyword) → list_all (λ (row : Word × Keyword). p row.1) table ≡ true → looked_up table w ≡ Some k → p k ≡ true
passes_lookup p [] w k all e = absurd cc
passes_lookup p (row ∷ table) w k all e =
    let q = and_parts (p row.1) (list_all (λ (r : Word × Keyword). p r.1) table) all in
    (elim (bytes_eq row.0 w) as (λ b. option_map (λ (r : Word × Keyword). r.1) (if b then Some row else find (λ (r : Word × Keyword). bytes_eq r.0 w) table) ≡ Some k → p k ≡ true) [
      | true ↦ λ e. let same : row.1 ≡ k = cc in subst (λ x. p x ≡ true) same q.0
      | false ↦ λ e. passes_lookup p table w k q.1 e
    ]) e

-- version 3 has five of them
header_is_low : (wide : Bool) (w : Word) (place : ℕ) → looked_up (if wide then keywords ++ late_keywords else keywords) w ≡ Some (key.Header place) → nat_lt place (if wide then 5 else 4) ≡ true
header_is_low true w place e = passes_lookup (is_header_below 5) (keywords ++ late_keywords) w (key.Header place) refl e
header_is_low false w place e = passes_lookup (is_header_below 4) keywords w (key.Header place) refl e

-- a header line stands where the header still lacks one
lacks_header : (d : Draft) (w : Word) (place : ℕ) → keyword_of (version_of d) w ≡ Some (key.Header place) → (place == length d.header) ≡ true → has_header d ≡ false
lacks_header d w place e here =
    let low : nat_lt place (if is_wide d then 5 else 4) ≡ true = header_is_low (is_wide d) w place e in
    let below : place < (if is_wide d then 5 else 4) = ltb-true place (if is_wide d then 5 else 4) low in
    let same : place ≡ length d.header = eqb-true place (length d.header) here in
    ne_eqb (length d.header) (if is_wide d then 5 else 4) (λ whole. omega (arith, below, same, whole))

-- ---- numbers in their ranges

in_range : (low high n : ℕ) → not (is_between low high n) ≡ false → is_between low high n ≡ true
in_range low high n h = not-false (is_between low high n) h

-- the greatest end lies below 2^62
end_is_low : (wide : Bool) (n : ℕ) → n ≤ (if wide then 2 ^ 62 - 1 else 2 ^ 40 - 1) → n < 2 ^ 62
end_is_low true n h = omega (arith, h)
end_is_low false n h = omega (arith, h)

-- the next number of the header
next_fits : (h : List ℕ) (w : Word) → is_out_of_range (nth Anything (header_sorts (declared h [] [] [])) (length h)) w ≡ false → passes_limit (declared h [] [] []) (HeaderLine (length h) (number w)) ≡ false →
    IsNext h (number w)
next_fits [] w range few = tt
next_fits (v ∷ []) w range few = (between 1 _ (number w) (in_range 1 _ (number w) range)).0
next_fits (v ∷ x ∷ []) w range few = tt
next_fits (v ∷ x ∷ dl ∷ []) w range few =
    let top : ℕ = if v == 3 then 2 ^ 62 - 1 else 2 ^ 40 - 1 in
    let p = and_parts (is_between x top (number w)) (number w % x == 0) (not-false (is_between x top (number w) && number w % x == 0) range) in
    let q = between x top (number w) p.0 in
    (q.0, end_is_low (v == 3) (number w) q.1, eqb-true (number w % x) 0 p.1, ltb-false 10000 (number w / x) few)
next_fits (v ∷ x ∷ dl ∷ e ∷ rest) w range few = tt

-- the numbers that words name at their places
header_next : (d : Draft) (place : ℕ) (words : List Word) → has_wrong_length d (key.Header place) words ≡ false → is_past_range d (key.Header place) words ≡ false → (place == length d.header) ≡ true →
    passes_limit d (statement_of (key.Header place) words) ≡ false → IsNext d.header (number (nth [] words 0))
header_next d place [] fill range here few = absurd cc
header_next d place (w ∷ words) fill range here few =
    let same : place ≡ length d.header = eqb-true place (length d.header) here in
    let sort : Sort = nth Anything (header_sorts d) place in
    let p = or_parts (is_out_of_range sort w) (list_any (λ (x : Sort × Word). is_out_of_range x.0 x.1) (placed (opened sort w words ++ []) words)) range in
    next_fits d.header w (subst (λ n. is_out_of_range (nth Anything (header_sorts d) n) w ≡ false) same p.0) (subst (λ n. passes_limit d (HeaderLine n (number w)) ≡ false) same few)

-- at most as many words as places that open none
few_words : (n : ℕ) (ws : List Word) → leaves_over (replicate n (may Name)) ws ≡ false → length ws ≤ n
few_words n [] fill = omega arith
few_words zero (w ∷ ws) fill = absurd cc
few_words (suc n) (w ∷ ws) fill = let rest = few_words n ws fill in omega (arith, rest)

frag_counts : (d : Draft) (words : List Word) → has_wrong_length d key.Fragment words ≡ false → is_past_range d key.Fragment words ≡ false →
    (is_between 1 4 (number (nth [] words 1)) ≡ true) × (is_between 1 8 (length (drop 2 words)) ≡ true)
frag_counts d [] fill range = absurd cc
frag_counts d (a ∷ []) fill range = absurd cc
frag_counts d (a ∷ b ∷ []) fill range = absurd cc
frag_counts d (a ∷ b ∷ c ∷ ws) fill range =
    let p = or_parts (not (is_between 1 4 (number b))) (list_any (λ (x : Sort × Word). is_out_of_range x.0 x.1) (placed (must Name ∷ replicate 7 (may Name)) (c ∷ ws))) range in
    let few = few_words 7 ws fill in
    let some : nat_le 1 (suc (length ws)) ≡ true = le-leb 1 (suc (length ws)) (omega arith) in
    let not_many : nat_le (suc (length ws)) 8 ≡ true = le-leb (suc (length ws)) 8 (omega (arith, few)) in
    (in_range 1 4 (number b) p.0, rw (some, not_many) refl)

window_sizes : (d : Draft) (words : List Word) → has_wrong_length d key.Aggregate words ≡ false → is_past_range d key.Aggregate words ≡ false →
    (0 < number (nth [] words 2)) × (0 < number (nth [] words 3))
window_sizes d [] fill range = absurd cc
window_sizes d (a ∷ []) fill range = absurd cc
window_sizes d (a ∷ b ∷ []) fill range = absurd cc
window_sizes d (a ∷ b ∷ size ∷ []) fill range = absurd cc
window_sizes d (a ∷ b ∷ size ∷ step ∷ ws) fill range =
    let p = or_parts (not (is_between 1 (greatest_end d) (number size))) _ range in
    let q = or_parts (not (is_between 1 (greatest_end d) (number step))) _ p.1 in
    ((between 1 (greatest_end d) (number size) (in_range 1 (greatest_end d) (number size) p.0)).0, (between 1 (greatest_end d) (number step) (in_range 1 (greatest_end d) (number step) q.0)).0)

-- ---- parts

declares_alone : (d : Draft) → not (declares d && is_nil d.frags && is_nil d.clients) ≡ false → (declares d ≡ true) × (is_nil d.frags ≡ true) × (is_nil d.clients ≡ true)
declares_alone d h =
    let p = and_parts (declares d && is_nil d.frags) (is_nil d.clients) (not-false (declares d && is_nil d.frags && is_nil d.clients) h) in
    let q = and_parts (declares d) (is_nil d.frags) p.0 in
    (q.0, q.1, p.1)

in_frag : (d : Draft) → not (declares d && not (is_nil d.frags) && is_nil d.clients) ≡ false → (declares d ≡ true) × (is_nil d.clients ≡ true)
in_frag d h =
    let p = and_parts (declares d && not (is_nil d.frags)) (is_nil d.clients) (not-false (declares d && not (is_nil d.frags) && is_nil d.clients) h) in
    let q = and_parts (declares d) (not (is_nil d.frags)) p.0 in
    (q.0, p.1)

runs_on : (d : Draft) → not (runs d) ≡ false → d.begun ≡ true
runs_on d h = (and_parts d.begun (not d.settle) (not-false (runs d) h)).0

-- what a line with this keyword says stands in its place
pub is_placed : (d : Draft) (k : Keyword) (w : Word) (words : List Word) → keyword_of (version_of d) w ≡ Some k → has_wrong_length d k words ≡ false → is_past_range d k words ≡ false →
    is_out_of_part d k ≡ false → IsFine d (statement_of k words) → IsPlaced d (statement_of k words)
is_placed d (key.Header place) w words e fill range part fine =
    let here = not-false (place == length d.header) part in
    (lacks_header d w place e here, header_next d place words fill range here fine.limit)
is_placed d key.Source w words e fill range part fine = declares_alone d part
is_placed d key.Log w words e fill range part fine = declares_alone d part
is_placed d key.Fragment w words e fill range part fine =
    let p = and_parts (declares d) (is_nil d.clients) (not-false (declares d && is_nil d.clients) part) in
    let counts = frag_counts d words fill range in
    (p.0, p.1, counts.0, counts.1)
is_placed d key.Patience w words e fill range part fine =
    let p = and_parts (declares d && not (is_nil d.frags) && is_nil d.clients) (is_fresh d) (not-false (declares d && not (is_nil d.frags) && is_nil d.clients && is_fresh d) part) in
    in_frag d (ap not p.0)
is_placed d key.Filter w words e fill range part fine = let p = in_frag d part in (p.0, p.1, tt)
is_placed d key.Map w words e fill range part fine = let p = in_frag d part in (p.0, p.1, tt)
is_placed d key.Union w words e fill range part fine = let p = in_frag d part in (p.0, p.1, tt)
is_placed d key.Join w words e fill range part fine = let p = in_frag d part in (p.0, p.1, tt)
is_placed d key.Aggregate w words e fill range part fine = let p = in_frag d part in (p.0, p.1, window_sizes d words fill range)
is_placed d key.Client w words e fill range part fine = not-false (declares d) part
is_placed d key.Begin w words e fill range part fine = not-false (declares d) part
is_placed d key.Emit w words e fill range part fine = (runs_on d part, λ plan s t. refl)
is_placed d key.Release w words e fill range part fine = (runs_on d part, λ plan s t. refl)
is_placed d key.Cut w words e fill range part fine = (runs_on d part, λ plan a b. refl)
is_placed d key.Heal w words e fill range part fine = (runs_on d part, λ plan a b. refl)
is_placed d key.Lose w words e fill range part fine = (runs_on d part, λ plan a b. refl)
is_placed d key.Repeat w words e fill range part fine = (runs_on d part, λ plan a b. refl)
is_placed d key.Crash w words e fill range part fine = runs_on d part
is_placed d key.Restart w words e fill range part fine = runs_on d part
is_placed d key.Tick w words e fill range part fine = runs_on d part
is_placed d key.Settle w words e fill range part fine = runs_on d part
