-- The numbers of a line against whose words no reason stands.
use Rattle.std.specs.Prelude.{if◌then◌else◌, unwrap_or, is_none}
use Rattle.std.proofs.Common.{◌≡◌, ◌||◌, ℕ, ℤ, zero, suc, ◌-◌, ◌^◌, ◌<◌, ◌≤◌, Bool, true, false, ◌&&◌, List, take, Option, None, Some, not, refl, sym, arith, slice_get, nat_lt}
use Rattle.dpc_lists.specs.Lists.{is_nil, list_all}
use Rattle.script_rules.specs.Reasons.{is_its_part, declares, first_of_tests, tests_said, last_time, source_at}
use Rattle.dpc_model.specs.Words.{Word}
use Rattle.dpc_lists.proofs.Truths.{both, not-false, not-less}
use Rattle.script_rules.specs.declared.reasons.Reason.{Reason}
use Rattle.script_rules.specs.declared.reasons.Reason.TheVariants.{Unknown, OutOfTime}
use Rattle.script_rules.specs.Statements.{word, number_at, LogLine}
use Rattle.script_rules.specs.Drafts.{Draft, is_wide, greatest_end, width_of, end_of, source_named}
use Rattle.script_rules.specs.Places.{must, places_of}
use Rattle.script_rules.specs.declared.keywords.Keyword.{Keyword}
use Rattle.script_rules.specs.declared.keywords.Keyword.TheVariants as key
use Rattle.script_rules.specs.declared.places.Place.{Place}
use Rattle.script_rules.specs.declared.places.Sort.TheVariants.{Natural, Range, Multiple}
use Rattle.script_words.specs.Numbers.{u64_of}
use Rattle.script_words.specs.Faultless.{IsFaultless}
use Rattle.script_words.proofs.Faults.{is_closed, good_word, ranged, multiple}
use Rattle.script_words.proofs.Ranges.{u64_is, u64_past}
use Rattle.script_draft.specs.Caches.{StandsFor}
use Rattle.script_rules.specs.Spelling.{is_numeral}
use Rattle.script_rules.proofs.Passing.{greatest_end-fits}

-- the number at a place is one of u64, and in its range
abbrev IsThere : ℕ → ℕ → List Word → ℕ → Type 0
IsThere low high ws i = (u64_of (word ws i) ≡ Some (number_at ws i)) × (low ≤ number_at ws i) × (number_at ws i ≤ high)

ranged_at : (d : Draft) (k : Keyword) (ws : List Word) (i low high : ℕ) → high < 2 ^ 64 → list_all (λ (q : Place). is_closed q.sort) (take i (places_of d k)) ≡ true →
    slice_get (places_of d k) i ≡ Some (must (Range low high)) → IsFaultless d k ws → IsThere low high ws i
ranged_at d k ws i low high fits closed is h = ranged low high (word ws i) fits (good_word d k ws i (Range low high) closed is h)

pub header_number : (d : Draft) (place : ℕ) (ws : List Word) → place < 5 → IsFaultless d (key.Header place) ws → u64_of (word ws 0) ≡ Some (number_at ws 0)
header_number d zero ws l h = (ranged_at d (key.Header 0) ws 0 1 3 (omega arith) refl refl h).0
header_number d (suc zero) ws l h = (elim (is_wide d) as (λ b. is_wide d ≡ b → u64_of (word ws 0) ≡ Some (number_at ws 0)) [
  | true ↦ λ e. (ranged_at d (key.Header 1) ws 0 1 (2 ^ 50) (omega arith) refl (rw e refl) h).0
  | false ↦ λ e. (ranged_at d (key.Header 1) ws 0 1 1000000 (omega arith) refl (rw e refl) h).0
]) refl
header_number d (suc (suc zero)) ws l h = (ranged_at d (key.Header 2) ws 0 0 (10 ^ 12) (omega arith) refl refl h).0
header_number d (suc (suc (suc zero))) ws l h =
    (multiple (width_of d) (greatest_end d) (width_of d) (word ws 0) (greatest_end-fits d) (good_word d (key.Header 3) ws 0 (Multiple (width_of d) (greatest_end d) (width_of d)) refl refl h)).0
header_number d (suc (suc (suc (suc zero)))) ws l h = (ranged_at d (key.Header 4) ws 0 0 1 (omega arith) refl refl h).0
header_number d (suc (suc (suc (suc (suc place))))) ws l h = absurd (omega (arith, l))

pub source_columns : (d : Draft) (ws : List Word) → IsFaultless d key.Source ws → IsThere 1 8 ws 1
source_columns d ws h = ranged_at d key.Source ws 1 1 8 (omega arith) refl refl h

pub fragment_replicas : (d : Draft) (ws : List Word) → IsFaultless d key.Fragment ws → IsThere 1 4 ws 1
fragment_replicas d ws h = ranged_at d key.Fragment ws 1 1 4 (omega arith) refl refl h

pub patience_delay : (d : Draft) (ws : List Word) → IsFaultless d key.Patience ws → IsThere 0 (10 ^ 12) ws 0
patience_delay d ws h = ranged_at d key.Patience ws 0 0 (10 ^ 12) (omega arith) refl refl h

pub tick_clock : (d : Draft) (ws : List Word) → IsFaultless d key.Tick ws → IsThere 0 (10 ^ 12) ws 0
tick_clock d ws h = ranged_at d key.Tick ws 0 0 (10 ^ 12) (omega arith) refl refl h

-- where a source stands, no fragment does
pub source_first : (d : Draft) → is_its_part d key.Source ≡ true → is_nil d.frags ≡ true
source_first d h = (both (declares d) (is_nil d.frags) (both (declares d && is_nil d.frags) (is_nil d.clients) h).0).1

-- the end is a number of u64
pub emit_time : (d : Draft) (ws : List Word) → end_of d < 2 ^ 64 → IsFaultless d key.Emit ws → u64_of (word ws 1) ≡ Some (number_at ws 1)
emit_time d ws fits h = (ranged_at d key.Emit ws 1 1 (end_of d) fits refl refl h).0

pub release_time : (d : Draft) (ws : List Word) → end_of d < 2 ^ 64 → IsFaultless d key.Release ws → u64_of (word ws 1) ≡ Some (number_at ws 1)
release_time d ws fits h = (ranged_at d key.Release ws 1 1 (end_of d) fits refl refl h).0

-- ---- log lines

-- the time as it was read, for the number that it is
pub time_stands : (d : Draft) (ws : List Word) → IsFaultless d key.Log ws → StandsFor (u64_of (word ws 1)) (number_at ws 1)
time_stands d ws h = stands (u64_of (word ws 1)) refl
  where
    numeral : is_numeral (word ws 1) ≡ true
    numeral = not-false (is_numeral (word ws 1)) (good_word d key.Log ws 1 Natural refl refl h).number

    stands : (o : Option ℕ) → u64_of (word ws 1) ≡ o → StandsFor o (number_at ws 1)
    stands None e = u64_past (word ws 1) numeral e
    stands (Some n) e = (u64_is (word ws 1) n e).1

second-false : (a b : Bool) (rest : Option Reason) → (if a then Some Unknown else (if b then Some OutOfTime else rest)) ≡ None → b ≡ false
second-false true b rest e = absurd cc
second-false false true rest e = absurd cc
second-false false false rest e = refl

-- the time of an accepted log line is one of u64
pub accepted_time : (d : Draft) (source : Word) (t : ℕ) (vals : List ℤ) (o : Option ℕ) → end_of d < 2 ^ 64 → StandsFor o t →
    first_of_tests (tests_said d (LogLine source t vals)) ≡ None → unwrap_or o 0 ≡ t
accepted_time d source t vals (Some n) fits stands e = sym stands
accepted_time d source t vals None fits stands e =
    let late : nat_lt t (last_time (source_at d source).log) || not (nat_lt t (end_of d)) ≡ false =
    second-false (is_none (source_named d source)) (nat_lt t (last_time (source_at d source).log) || not (nat_lt t (end_of d))) _ e in
    let past : nat_lt t (end_of d) ≡ false = not-less t (end_of d) (omega (arith, fits, stands)) in
    absurd (none (nat_lt t (last_time (source_at d source).log)) (rw past at late))
  where
    none : (a : Bool) → (a || true) ≡ false → ⊥
    none true e = cc
    none false e = cc
