-- What the words of an operator's line are, where no reason stands against them.
use Rattle.std.proofs.Common.{◌≡◌, ℕ, zero, suc, ◌+◌, ◌<◌, ◌≤◌, max, Bool, true, false, not, ◌&&◌, List, [], ◌∷◌, length, take, drop, map, Option, Some, None, refl, sym, ap, subst, ◌∙◌, arith}
use Rattle.std.proofs.lemmas.Bool.{and_parts, or_parts, leb-true, leb-false, lt-ltb, le-ltb, ltb-false}
use Rattle.std.proofs.lemmas.List.Folds.{list_all_more}
use Rattle.std.specs.Prelude.{nat_lt, nat_le, option_map, unwrap_or, get_or}
use Rattle.dpc_model.specs.Formula.{Formula}
use Rattle.dpc_lists.specs.Lists.{list_all, nth}
use Rattle.dpc_model.specs.Words.{Word}
use Rattle.dpc_model.specs.declared.operators.Agg.{Agg}
use Rattle.dpc_model.specs.declared.operators.OpKind.TheVariants as kind
use Rattle.script_rules.specs.Drafts.{Draft, greatest_end}
use Rattle.script_rules.specs.Reasons.{agg_reads_below, first_of_tests, tests_said, input_columns, fits_inputs}
use Rattle.script_rules.specs.Spelling.{is_numeral, number}
use Rattle.script_rules.specs.Statements.{word, number_at, pairs, OperatorLine}
use Rattle.script_rules.specs.Symbols.{formula_of, formulas}
use Rattle.script_rules.specs.declared.keywords.Keyword.TheVariants as key
use Rattle.script_rules.specs.declared.places.Sort.TheVariants.{Name, Count, Range}
use Rattle.script_rules.proofs.Passing.{is_fine, greatest_end-fits}
use Rattle.script_words.specs.Faultless.{IsFaultless}
use Rattle.script_words.specs.Numbers.{u64_of}
use Rattle.script_words.specs.Operands.{are_u64, pairs_of}
use Rattle.script_words.specs.Options.{given}
use Rattle.script_words.specs.Readable.{AreReadable, longest, columns_in}
use Rattle.script_words.proofs.Faults.{IsGood, good_word, filter_readable, filter_one, map_readable, map_count, ranged, join_numerals, join_past}
use Rattle.script_words.proofs.Lengths.{one_too_long, one_reads_below, too_long_is, reads_below_is, max_le}
use Rattle.script_draft.specs.Shapes.{HasShape, Reads}
use Rattle.script_draft.specs.declared.shape.Shape.TheVariants as shape

-- a name is a word that is there
name_there : (ws : List Word) (i : ℕ) → IsGood Name (word ws i) → take 1 (drop i ws) ≡ word ws i ∷ []
name_there [] i g = let none : true ≡ false = g.foreign in absurd cc
name_there (w ∷ ws) zero g = refl
name_there (w ∷ ws) (suc i) g = name_there ws i g

-- the input of a filter
pub filter_input : (d : Draft) (ws : List Word) → IsFaultless d key.Filter ws → take 1 (drop 1 ws) ≡ word ws 1 ∷ []
filter_input d ws h = name_there ws 1 (good_word d key.Filter ws 1 Name refl refl h)

-- its expression, where the words from place 2 on are these
pub filter_words : (d : Draft) (ws rest : List Word) → IsFaultless d key.Filter ws → rest ≡ drop 2 ws → AreReadable rest
filter_words d ws rest h is = rw is (filter_readable d ws h)

pub filter_single : (d : Draft) (ws rest : List Word) → IsFaultless d key.Filter ws → rest ≡ drop 2 ws → length (formulas rest) ≡ 1
filter_single d ws rest h is = rw is (filter_one d ws h)

pub filter_shape : (d : Draft) (ws rest : List Word) (e : Formula) (columns words : ℕ) → IsFaultless d key.Filter ws → rest ≡ drop 2 ws → e ≡ formula_of rest → columns ≡ columns_in (formulas rest) →
    words ≡ longest (formulas rest) → HasShape (kind.Filter e) (shape.Filter columns words)
filter_shape d ws rest e columns words h is e_is columns_is words_is =
    let single = filter_single d ws rest h is in
    rw (e_is, columns_is, words_is) (λ n low. one_reads_below n (formulas rest) single, one_too_long (formulas rest) single)

-- the input of a map
pub map_input : (d : Draft) (ws : List Word) → IsFaultless d key.Map ws → take 1 (drop 1 ws) ≡ word ws 1 ∷ []
map_input d ws h = name_there ws 1 (good_word d key.Map ws 1 Name refl refl h)

-- how many expressions it has
pub map_number : (d : Draft) (ws : List Word) → IsFaultless d key.Map ws → u64_of (word ws 2) ≡ Some (number_at ws 2)
map_number d ws h =
    let g = good_word d key.Map ws 2 Count refl refl h in
    (ranged 1 8 (word ws 2) (omega arith) (record { foreign = refl; number = g.number; range = g.range })).0

-- its expressions, where the words from place 3 on are these
pub map_words : (d : Draft) (ws rest : List Word) → IsFaultless d key.Map ws → rest ≡ drop 3 ws → AreReadable rest
map_words d ws rest h is = rw is (map_readable d ws h)

pub map_shape : (d : Draft) (ws rest : List Word) (es : List Formula) (columns words count : ℕ) → IsFaultless d key.Map ws → rest ≡ drop 3 ws → es ≡ formulas rest → columns ≡ columns_in (formulas rest) →
    words ≡ longest (formulas rest) → count ≡ number_at ws 2 → HasShape (kind.Map es) (shape.Map columns words count)
map_shape d ws rest es columns words count h is es_is columns_is words_is count_is =
    rw (es_is, columns_is, words_is, count_is, is) (λ n low. reads_below_is n (formulas (drop 3 ws)), too_long_is (formulas (drop 3 ws)), map_count d ws h)

-- ---- aggregates

-- one more aggregate
pub aggs_more : (i : ℕ) (agg d : Agg) (aggs : List Agg) (columns own : ℕ) → i < length aggs → agg ≡ get_or aggs i d → ((n : ℕ) → n ≤ 8 → list_all (agg_reads_below n) (take i aggs) ≡ nat_le columns n) →
    ((n : ℕ) → n ≤ 8 → agg_reads_below n agg ≡ nat_le own n) → (n : ℕ) → n ≤ 8 → list_all (agg_reads_below n) (take (i + 1) aggs) ≡ nat_le (max columns own) n
aggs_more i agg d aggs columns own there is so_far here n low =
    list_all_more (agg_reads_below n) aggs i d there ∙ ap (λ b. b && agg_reads_below n (get_or aggs i d)) (so_far n low)
    ∙ ap (λ b. nat_le columns n && b) (ap (agg_reads_below n) (sym is) ∙ here n low) ∙ max_le columns own n

below_next : (c n : ℕ) → nat_lt c (n + 1) ≡ nat_le c n
below_next c n =
    (elim (nat_le c n) as (λ t. nat_le c n ≡ t → nat_lt c (n + 1) ≡ t) [
      | true ↦ λ e. let le : c ≤ n = leb-true c n e in lt-ltb c (n + 1) (omega arith)
      | false ↦ λ e. let lt : n < c = leb-false c n e in le-ltb c (n + 1) (omega arith)
    ]) refl

-- what an aggregate reads, by the columns up to its group's and up to the last of its aggregates'
pub aggregate_reads : (size step : ℕ) (group : Option ℕ) (aggs : List Agg) (columns own : ℕ) → columns ≡ unwrap_or (option_map (λ c. c + 1) group) 0 → ((n : ℕ) → n ≤ 8 → list_all (agg_reads_below n) aggs ≡ nat_le own n) →
    Reads (kind.Aggregate size step group aggs) (max columns own)
aggregate_reads size step group aggs columns own is here n low =
    ap (λ c. nat_lt c (n + 1) && list_all (agg_reads_below n) aggs) (sym is) ∙ ap (λ b. b && list_all (agg_reads_below n) aggs) (below_next columns n) ∙ ap (λ b. nat_le columns n && b) (here n low) ∙ max_le columns own n

pub aggregate_input : (d : Draft) (ws : List Word) → IsFaultless d key.Aggregate ws → take 1 (drop 1 ws) ≡ word ws 1 ∷ []
aggregate_input d ws h = name_there ws 1 (good_word d key.Aggregate ws 1 Name refl refl h)

-- the size of its windows and their step
pub aggregate_size : (d : Draft) (ws : List Word) → IsFaultless d key.Aggregate ws → u64_of (word ws 2) ≡ Some (number_at ws 2)
aggregate_size d ws h = (ranged 1 (greatest_end d) (word ws 2) (greatest_end-fits d) (good_word d key.Aggregate ws 2 (Range 1 (greatest_end d)) refl refl h)).0

pub aggregate_step : (d : Draft) (ws : List Word) → IsFaultless d key.Aggregate ws → u64_of (word ws 3) ≡ Some (number_at ws 3)
aggregate_step d ws h = (ranged 1 (greatest_end d) (word ws 3) (greatest_end-fits d) (good_word d key.Aggregate ws 3 (Range 1 (greatest_end d)) refl refl h)).0

-- ---- joins

-- two names
names_there : (ws : List Word) (i : ℕ) → IsGood Name (word ws i) → IsGood Name (word ws (suc i)) → take 2 (drop i ws) ≡ word ws i ∷ word ws (suc i) ∷ []
names_there [] i g h = let none : true ≡ false = g.foreign in absurd cc
names_there (w ∷ ws) zero g h = ap (λ more. w ∷ more) (name_there ws 0 h)
names_there (w ∷ ws) (suc i) g h = names_there ws i g h

pub join_inputs : (d : Draft) (ws : List Word) → IsFaultless d key.Join ws → take 2 (drop 1 ws) ≡ word ws 1 ∷ word ws 2 ∷ []
join_inputs d ws h = names_there ws 1 (good_word d key.Join ws 1 Name refl refl h) (good_word d key.Join ws 2 Name refl refl h)

pub join_within : (d : Draft) (ws : List Word) → IsFaultless d key.Join ws → u64_of (word ws 3) ≡ Some (number_at ws 3)
join_within d ws h = (ranged 0 (greatest_end d) (word ws 3) (greatest_end-fits d) (good_word d key.Join ws 3 (Range 0 (greatest_end d)) refl refl h)).0

-- the words behind two numerals
pub numerals_behind : (l r : Word) (now mid behind : List Word) → now ≡ l ∷ mid → mid ≡ r ∷ behind → list_all is_numeral now ≡ true → list_all is_numeral behind ≡ true
numerals_behind l r now mid behind at at_2 numerals =
    let all : (is_numeral l && (is_numeral r && list_all is_numeral behind)) ≡ true = ap (list_all is_numeral) (sym (at ∙ ap (λ ws. l ∷ ws) at_2)) ∙ numerals in
    (and_parts (is_numeral r) (list_all is_numeral behind) (and_parts (is_numeral l) (is_numeral r && list_all is_numeral behind) all).1).1

-- one more pair of keys, of which a test sees one
pub keys_more : (test : ℕ × ℕ → Bool) (n columns own : ℕ) (l r : Word) (now mid behind : List Word) (all : Bool) → now ≡ l ∷ mid → mid ≡ r ∷ behind → test (number l, number r) ≡ nat_le own n →
    (nat_le columns n && list_all test (pairs (map number now))) ≡ all → (nat_le (max columns own) n && list_all test (pairs (map number behind))) ≡ all
keys_more test n columns own l r now mid behind all at at_2 here so_far =
    let rest = list_all test (pairs (map number behind)) in
    let first : list_all test (pairs (map number now)) ≡ (nat_le own n && rest) =
    ap (λ ws. list_all test (pairs (map number ws))) (at ∙ ap (λ ws. l ∷ ws) at_2) ∙ ap (λ b. b && rest) here in
    ap (λ b. b && rest) (sym (max_le columns own n)) ∙ both (nat_le columns n) (nat_le own n) rest ∙ sym (ap (λ b. nat_le columns n && b) first) ∙ so_far
  where
    both : (a b c : Bool) → ((a && b) && c) ≡ (a && (b && c))
    both true b c = refl
    both false b c = refl

-- all keys are of u64 where nothing stands against the join
keys_said : (d : Draft) (ws : List Word) (name : Word) (inputs : List Word) (within : ℕ) → IsFaultless d key.Join ws →
    first_of_tests (tests_said d (OperatorLine name inputs (kind.Join within (pairs (map number (drop 4 ws)))))) ≡ None → pairs_of (drop 4 ws) ≡ Some (pairs (map number (drop 4 ws)))
keys_said d ws name inputs within h none =
    let columns = input_columns d inputs in
    let keys = pairs (map number (drop 4 ws)) in
    let fits = fits_inputs (kind.Join within keys) columns in
    let a = nth 0 columns 0 in
    let b = nth 0 columns 1 in
    let parts = or_parts (not fits) (nat_lt 8 (a + b)) (is_fine d (OperatorLine name inputs (kind.Join within keys)) none).columns in
    let few : a + b ≤ 8 = ltb-false 8 (a + b) parts.1 in
    (elim (are_u64 (drop 4 ws)) as (λ t. are_u64 (drop 4 ws) ≡ t → given t keys ≡ Some keys) [
      | true ↦ λ e. refl
      | false ↦ λ e. let past : true ≡ false = ap not (sym (join_past d ws a b (omega (arith, few)) (omega (arith, few)) h e)) ∙ parts.0 in absurd cc
    ]) refl

-- .. where the words from place 4 on are these
pub join_keys : (d : Draft) (ws rest : List Word) (name : Word) (inputs : List Word) (within : ℕ) → IsFaultless d key.Join ws → rest ≡ drop 4 ws →
    first_of_tests (tests_said d (OperatorLine name inputs (kind.Join within (pairs (map number rest))))) ≡ None → pairs_of rest ≡ Some (pairs (map number rest))
join_keys d ws rest name inputs within h is =
    subst (λ ws. first_of_tests (tests_said d (OperatorLine name inputs (kind.Join within (pairs (map number ws))))) ≡ None → pairs_of ws ≡ Some (pairs (map number ws))) (sym is) (keys_said d ws name inputs within h)

pub join_words : (d : Draft) (ws rest : List Word) → IsFaultless d key.Join ws → rest ≡ drop 4 ws → list_all is_numeral rest ≡ true
join_words d ws rest h is = rw is (join_numerals d ws h)
