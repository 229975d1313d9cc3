-- The names, numbers and counts of a line are in their ranges.
use Rattle.std.proofs.Common.{◌≡◌, ℕ, zero, suc, ◌+◌, ◌-◌, ◌^◌, ◌%◌, ◌<◌, ◌≤◌, Bool, true, false, List, [], ◌∷◌, ◌++◌, map, length, Some, refl, ap, subst, ◌∙◌, arith}
use Rattle.std.specs.Prelude.{⊤, not, ◌&&◌, ◌==◌, nat_lt, min, if◌then◌else◌, unwrap_or}
use Rattle.std.proofs.Math.ListN.{replicate}
use Rattle.std.proofs.lemmas.Bool.{not-false, and_parts, and_from, or_parts, ltb-true, ltb-false, lt-ltb, le-leb, eqb-true}
use Rattle.std.proofs.lemmas.List.{length-map}
use Rattle.dpc_lists.specs.Lists.{list_all, nth}
use Rattle.dpc_model.specs.Words.{Word}
use Rattle.dpc_model.specs.Columns.{kind_columns}
use Rattle.dpc_model.specs.declared.operators.OpKind.{OpKind}
use Rattle.dpc_model.specs.declared.operators.OpKind.TheVariants as kind
use Rattle.dpc_model.specs.declared.plans.Plan.{Plan}
use Rattle.script_rules.specs.declared.keywords.Keyword.{Keyword}
use Rattle.script_rules.specs.declared.keywords.Keyword.TheVariants as key
use Rattle.script_rules.specs.declared.places.Sort.TheVariants.{Name, Range}
use Rattle.script_rules.specs.Spelling.{is_name, is_i64, number, value, column_of}
use Rattle.script_rules.specs.Keywords.{keywords, late_keywords, looked_up, keyword_of}
use Rattle.script_rules.specs.Symbols.{formulas, formula_of, aggs_of}
use Rattle.script_rules.specs.Statements.{Statement, statement_of, word, number_at, pairs, HeaderLine, SourceLine, LogLine, FragmentLine, PatienceLine, OperatorLine, ClientLine, BeginLine, SendLine, LinkLine, NodeLine, TickLine, SettleLine}
use Rattle.script_rules.specs.Places.{must, may, places_of, is_between}
use Rattle.script_rules.specs.Drafts.{Draft, version_of, plan_of, end_of, greatest_end, has_header}
use Rattle.script_rules.specs.Reasons.{is_its_part, agg_reads_below, fits_inputs, input_columns}
use Rattle.script_rules.specs.Checking.{is_log_in_range, is_formula_in_range, are_inputs_in_range, is_kind_in_range, is_delay_in_range, is_directive_in_range}
use Rattle.script_rules.proofs.Passing.{IsFine}
use Rattle.script_rules.proofs.Headers.{declared}
use Rattle.script_rules.proofs.Formed.{IsPlaced}
use Rattle.law_scripts.proofs.Aggregates.{is_key}
use Rattle.law_scripts.proofs.Filling.{Keeps, Fills}
use Rattle.law_scripts.proofs.Written.{EachRow, looked, count_back, count_places}
use Rattle.law_scripts.proofs.LinesWritten.{HasLowEnd}
use Rattle.law_scripts.proofs.WordRanges.{formulas_in_range, formula_in_range, group_in_range, values_in_range, low_keys, few_keys, aggs_in_range, some_aggregate}

-- ---- what is wanted of a statement

-- the next number of the header
abbrev pub IsNextInRange : List ℕ → ℕ → Type 0
IsNextInRange [] n = is_between 1 3 n ≡ true
IsNextInRange (v ∷ []) n = is_between 1 (if v == 3 then 2 ^ 50 else 1000000) n ≡ true
IsNextInRange (v ∷ w ∷ []) n = is_between 0 (10 ^ 12) n ≡ true
IsNextInRange (v ∷ w ∷ dl ∷ []) n = (is_between w (if v == 3 then 2 ^ 62 - 1 else 2 ^ 40 - 1) n && n % w == 0) ≡ true
IsNextInRange (v ∷ w ∷ dl ∷ e ∷ rest) n = ⊤

-- the plan of a header alone
abbrev pub bare_plan : List ℕ → Plan
bare_plan h = plan_of (declared h [] [] [])

-- behind this header, names, numbers and counts are in their ranges
abbrev pub IsSaidInRange : List ℕ → Statement → Type 0
IsSaidInRange h (HeaderLine place n) = IsNextInRange h n
IsSaidInRange h (SourceLine name columns) = (is_name name && is_between 1 8 columns) ≡ true
IsSaidInRange h (LogLine source time vals) = is_log_in_range (record { stime = time; vals = vals }) ≡ true
IsSaidInRange h (FragmentLine name replicas streams) = (is_name name && is_between 1 4 replicas && is_between 1 8 (length streams)) ≡ true
IsSaidInRange h (PatienceLine delay) = is_delay_in_range (bare_plan h) (Some delay) ≡ true
IsSaidInRange h (OperatorLine name inputs k) = (is_name name && are_inputs_in_range k (length inputs) && is_kind_in_range (bare_plan h) k) ≡ true
IsSaidInRange h (ClientLine name stream) = is_name name ≡ true
IsSaidInRange h BeginLine = ⊤
IsSaidInRange h (SendLine make source time) = (s : ℕ) → is_directive_in_range (bare_plan h) (make s time) ≡ true
IsSaidInRange h (LinkLine make a b) = (x y : ℕ) → is_directive_in_range (bare_plan h) (make x y) ≡ true
IsSaidInRange h (NodeLine crash node) = ⊤
IsSaidInRange h (TickLine now) = is_between 0 (10 ^ 12) now ≡ true
IsSaidInRange h SettleLine = ⊤

-- ---- words

named : (w : Word) → Keeps Name w → is_name w ≡ true
named w k = not-false (is_name w) k.sorted

in_range : (low high : ℕ) (w : Word) → Keeps (Range low high) w → is_between low high (number w) ≡ true
in_range low high w k = not-false (is_between low high (number w)) k.range

range_alone : (low high : ℕ) (ws : List Word) → Fills (must (Range low high) ∷ []) ws → is_between low high (number_at ws 0) ≡ true
range_alone low high [] h = absurd cc
range_alone low high (w ∷ ws) h = in_range low high w h.0

name_and_range : (low high : ℕ) (ws : List Word) → Fills (must Name ∷ must (Range low high) ∷ []) ws → (is_name (word ws 0) ≡ true) × (is_between low high (number_at ws 1) ≡ true)
name_and_range low high [] h = absurd cc
name_and_range low high (a ∷ []) h = absurd cc
name_and_range low high (a ∷ w ∷ ws) h = (named a h.0, in_range low high w h.1.0)

first_name : (ws : List Word) → Fills (must Name ∷ must Name ∷ []) ws → is_name (word ws 0) ≡ true
first_name [] h = absurd cc
first_name (a ∷ ws) h = named a h.0

few_names : (n : ℕ) (ws : List Word) → Fills (replicate n (may Name)) ws → length ws ≤ n
few_names n [] h = omega arith
few_names zero (w ∷ ws) h = absurd h
few_names (suc n) (w ∷ ws) h = let more = few_names n ws h.1 in omega (arith, more)

count_between : (low high n : ℕ) → low ≤ n → n ≤ high → is_between low high n ≡ true
count_between low high n a b = rw (le-leb low n a, le-leb n high b) refl

-- ---- the header

header_in_range : (h : List ℕ) (ws : List Word) → Fills (places_of (declared h [] [] []) (key.Header (length h))) ws → IsNextInRange h (number_at ws 0)
header_in_range [] ws k = range_alone 1 3 ws k
header_in_range (v ∷ []) ws k = range_alone 1 _ ws k
header_in_range (v ∷ w ∷ []) ws k = range_alone 0 (10 ^ 12) ws k
header_in_range (v ∷ w ∷ dl ∷ []) [] k = absurd cc
header_in_range (v ∷ w ∷ dl ∷ []) (x ∷ ws) k = not-false (is_between w (if v == 3 then 2 ^ 62 - 1 else 2 ^ 40 - 1) (number x) && number x % w == 0) k.0.range
header_in_range (v ∷ w ∷ dl ∷ e ∷ rest) ws k = tt

-- ---- declarations

source_in_range : (h : List ℕ) (ws : List Word) → Fills (must Name ∷ must (Range 1 8) ∷ []) ws → IsSaidInRange h (statement_of key.Source ws)
source_in_range h ws k = let p = name_and_range 1 8 ws k in and_from (is_name (word ws 0)) (is_between 1 8 (number_at ws 1)) p.0 p.1

log_in_range : (d : Draft) (ws : List Word) → end_of d < 2 ^ 62 → Fills (places_of d key.Log) ws → IsFine d (statement_of key.Log ws) → IsSaidInRange d.header (statement_of key.Log ws)
log_in_range d [] end k fine = absurd cc
log_in_range d (a ∷ []) end k fine = absurd cc
log_in_range d (a ∷ b ∷ []) end k fine = absurd cc
log_in_range d (a ∷ b ∷ v ∷ ws) end k fine =
    let tests = or_parts (nat_lt (number b) _) (not (nat_lt (number b) (end_of d))) fine.time in
    let below = ltb-true (number b) (end_of d) (not-false (nat_lt (number b) (end_of d)) tests.1) in
    let time : nat_lt (number b) (2 ^ 64) ≡ true = lt-ltb (number b) (2 ^ 64) (omega (arith, below, end)) in
    let vals = values_in_range 8 (v ∷ ws) k.1.1 in
    let few = vals.few in
    let many : length (map value (v ∷ ws)) ≡ length (v ∷ ws) = length-map (v ∷ ws) value in
    let count : is_between 1 8 (length (map value (v ∷ ws))) ≡ true = count_between 1 8 (length (map value (v ∷ ws))) (omega (arith, many)) (omega (arith, many, few)) in
    let range : list_all is_i64 (map value (v ∷ ws)) ≡ true = vals.range in
    and_from (nat_lt (number b) (2 ^ 64) && is_between 1 8 (length (map value (v ∷ ws)))) (list_all is_i64 (map value (v ∷ ws))) (and_from (nat_lt (number b) (2 ^ 64)) (is_between 1 8 (length (map value (v ∷ ws)))) time count) range

fragment_in_range : (d : Draft) (ws : List Word) → Fills (places_of d key.Fragment) ws → IsPlaced d (statement_of key.Fragment ws) → IsSaidInRange d.header (statement_of key.Fragment ws)
fragment_in_range d [] k p = absurd cc
fragment_in_range d (a ∷ ws) k p = rw (named a k.0, p.2, p.3) refl

-- only version 3 has patience
abbrev is_early : Keyword → Bool
is_early key.Patience = false
is_early _ = true

each_early : EachRow (λ w k. is_early k ≡ true) keywords
each_early =
    (refl, (refl, (refl, (refl, (refl, (refl, (refl, (refl, (refl, (refl, (refl, (refl, (refl, (refl, (refl, (refl, (refl, (refl, (refl, (refl, (refl, (refl, (refl, (refl, tt))))))))))))))))))))))))

is_late : (version : ℕ) (w : Word) → keyword_of version w ≡ Some key.Patience → (version == 3) ≡ true
is_late version w =
    elim (version == 3) as (λ t. looked_up (if t then keywords ++ late_keywords else keywords) w ≡ Some key.Patience → t ≡ true) [
      | true ↦ λ e. refl
      | false ↦ λ e. let wrong : is_early key.Patience ≡ true = looked (λ w k. is_early k ≡ true) keywords w key.Patience each_early e in absurd cc
    ]

patience_in_range : (d : Draft) (w : Word) (ws : List Word) → keyword_of (version_of d) w ≡ Some key.Patience → Fills (must (Range 0 (10 ^ 12)) ∷ []) ws → IsSaidInRange d.header (statement_of key.Patience ws)
patience_in_range d w ws e k = and_from (version_of d == 3) (is_between 0 (10 ^ 12) (number_at ws 0)) (is_late (version_of d) w e) (range_alone 0 (10 ^ 12) ws k)

-- ---- operators

-- a name, as many inputs as an operator of that kind has, and what it computes
with_kind : (h : List ℕ) (name : Word) (inputs : List Word) (k : OpKind) → is_name name ≡ true → are_inputs_in_range k (length inputs) ≡ true → is_kind_in_range (bare_plan h) k ≡ true → IsSaidInRange h (OperatorLine name inputs k)
with_kind h name inputs k a b c = and_from (is_name name && are_inputs_in_range k (length inputs)) (is_kind_in_range (bare_plan h) k) (and_from (is_name name) (are_inputs_in_range k (length inputs)) a b) c

filter_in_range : (d : Draft) (ws : List Word) → Fills (places_of d key.Filter) ws → IsSaidInRange d.header (statement_of key.Filter ws)
filter_in_range d [] k = absurd cc
filter_in_range d (n ∷ []) k = absurd cc
filter_in_range d (n ∷ i ∷ ws) k = with_kind d.header n (i ∷ []) (kind.Filter (formula_of ws)) (named n k.0) refl (formula_in_range ws k.1.1)

map_in_range : (d : Draft) (ws : List Word) → Fills (places_of d key.Map) ws → IsSaidInRange d.header (statement_of key.Map ws)
map_in_range d [] k = absurd cc
map_in_range d (n ∷ []) k = absurd cc
map_in_range d (n ∷ i ∷ []) k = absurd cc
map_in_range d (n ∷ i ∷ c ∷ ws) k =
    let counted = count_back c ws k.1.1.0 k.1.1.1 in
    let few : is_between 1 8 (length (formulas ws)) ≡ true = ap (is_between 1 8) counted.many ∙ not-false (is_between 1 8 (number c)) k.1.1.0.range in
    let all : list_all is_formula_in_range (formulas ws) ≡ true = formulas_in_range (min (number c) (length ws + 1)) ws (subst (λ p. Fills p ws) (count_places c ws k.1.1.0) k.1.1.1) in
    with_kind d.header n (i ∷ []) (kind.Map (formulas ws)) (named n k.0) refl (and_from (is_between 1 8 (length (formulas ws))) (list_all is_formula_in_range (formulas ws)) few all)

union_in_range : (d : Draft) (ws : List Word) → Fills (places_of d key.Union) ws → IsSaidInRange d.header (statement_of key.Union ws)
union_in_range d [] k = absurd cc
union_in_range d (n ∷ []) k = absurd cc
union_in_range d (n ∷ i ∷ []) k = absurd cc
union_in_range d (n ∷ i ∷ j ∷ ws) k =
    let few = few_names 6 ws k.1.1.1 in
    with_kind d.header n (i ∷ j ∷ ws) kind.Union (named n k.0) (count_between 2 8 (length (i ∷ j ∷ ws)) (omega arith) (omega (arith, few))) refl

join_in_range : (d : Draft) (ws : List Word) → Fills (places_of d key.Join) ws → IsFine d (statement_of key.Join ws) → IsSaidInRange d.header (statement_of key.Join ws)
join_in_range d [] k fine = absurd cc
join_in_range d (n ∷ []) k fine = absurd cc
join_in_range d (n ∷ i ∷ []) k fine = absurd cc
join_in_range d (n ∷ i ∷ j ∷ []) k fine = absurd cc
join_in_range d (n ∷ i ∷ j ∷ w ∷ ws) k fine =
    let keys = pairs (map number ws) in
    let join : OpKind = kind.Join (number w) keys in
    let columns = input_columns d (i ∷ j ∷ []) in
    let tests = or_parts (not (fits_inputs join columns)) (nat_lt 8 (kind_columns join columns)) fine.columns in
    let few = ltb-false 8 (nth 0 columns 0 + nth 0 columns 1) tests.1 in
    let within : is_between 0 (greatest_end d) (number w) ≡ true = in_range 0 (greatest_end d) w k.1.1.1.0 in
    let many : is_between 0 8 (length keys) ≡ true = count_between 0 8 (length keys) (omega arith) (few_keys 8 ws k.1.1.1.1) in
    let low : list_all is_key keys ≡ true = low_keys (nth 0 columns 0) (nth 0 columns 1) keys (omega (arith, few)) (omega (arith, few)) (not-false (fits_inputs join columns) tests.0) in
    with_kind d.header n (i ∷ j ∷ []) join (named n k.0) refl
    (and_from (is_between 0 (greatest_end d) (number w) && is_between 0 8 (length keys)) (list_all is_key keys) (and_from (is_between 0 (greatest_end d) (number w)) (is_between 0 8 (length keys)) within many) low)

aggregate_in_range : (d : Draft) (ws : List Word) → Fills (places_of d key.Aggregate) ws → IsSaidInRange d.header (statement_of key.Aggregate ws)
aggregate_in_range d [] k = absurd cc
aggregate_in_range d (n ∷ []) k = absurd cc
aggregate_in_range d (n ∷ i ∷ []) k = absurd cc
aggregate_in_range d (n ∷ i ∷ x ∷ []) k = absurd cc
aggregate_in_range d (n ∷ i ∷ x ∷ y ∷ []) k = absurd cc
aggregate_in_range d (n ∷ i ∷ x ∷ y ∷ g ∷ []) k = absurd cc
aggregate_in_range d (n ∷ i ∷ x ∷ y ∷ g ∷ v ∷ ws) k =
    let size : is_between 1 (greatest_end d) (number x) ≡ true = in_range 1 (greatest_end d) x k.1.1.0 in
    let step : is_between 1 (greatest_end d) (number y) ≡ true = in_range 1 (greatest_end d) y k.1.1.1.0 in
    let group : nat_lt (unwrap_or (column_of g) 0) 8 ≡ true = group_in_range g in
    let aggs = aggs_in_range 8 (v ∷ ws) k.1.1.1.1.1 in
    let few : is_between 1 8 (length (aggs_of (v ∷ ws))) ≡ true = count_between 1 8 (length (aggs_of (v ∷ ws))) (some_aggregate 7 (v ∷ ws) k.1.1.1.1.1) aggs.few in
    let all : list_all (agg_reads_below 8) (aggs_of (v ∷ ws)) ≡ true = aggs.range in
    with_kind d.header n (i ∷ []) (kind.Aggregate (number x) (number y) (column_of g) (aggs_of (v ∷ ws))) (named n k.0) refl
    (rw (size, step, group, few, all) refl)

-- ---- any line

pub line_in_range : (d : Draft) (k : Keyword) (w : Word) (ws : List Word) → keyword_of (version_of d) w ≡ Some k → HasLowEnd d → Fills (places_of d k) ws → is_its_part d k ≡ true → IsFine d (statement_of k ws) → IsPlaced d (statement_of k ws) →
    IsSaidInRange d.header (statement_of k ws)
line_in_range d (key.Header place) w ws e end h part fine p =
    let here : place ≡ length d.header = eqb-true place (length d.header) part in
    header_in_range d.header ws (subst (λ n. Fills (places_of d (key.Header n)) ws) here h)
line_in_range d key.Source w ws e end h part fine p = source_in_range d.header ws h
line_in_range d key.Log w ws e end h part fine p =
    let declaring = p.0 in
    log_in_range d ws (end (and_parts (has_header d) (not d.begun) declaring).0) h fine
line_in_range d key.Fragment w ws e end h part fine p = fragment_in_range d ws h p
line_in_range d key.Patience w ws e end h part fine p = patience_in_range d w ws e h
line_in_range d key.Filter w ws e end h part fine p = filter_in_range d ws h
line_in_range d key.Map w ws e end h part fine p = map_in_range d ws h
line_in_range d key.Union w ws e end h part fine p = union_in_range d ws h
line_in_range d key.Join w ws e end h part fine p = join_in_range d ws h fine
line_in_range d key.Aggregate w ws e end h part fine p = aggregate_in_range d ws h
line_in_range d key.Client w ws e end h part fine p = first_name ws h
line_in_range d key.Begin w ws e end h part fine p = tt
line_in_range d key.Emit w ws e end h part fine p = λ s. (name_and_range 1 (end_of d) ws h).1
line_in_range d key.Release w ws e end h part fine p = λ s. (name_and_range 1 (end_of d) ws h).1
line_in_range d key.Cut w ws e end h part fine p = λ x y. refl
line_in_range d key.Heal w ws e end h part fine p = λ x y. refl
line_in_range d key.Lose w ws e end h part fine p = λ x y. refl
line_in_range d key.Repeat w ws e end h part fine p = λ x y. refl
line_in_range d key.Crash w ws e end h part fine p = tt
line_in_range d key.Restart w ws e end h part fine p = tt
line_in_range d key.Tick w ws e end h part fine p = range_alone 0 (10 ^ 12) ws h
line_in_range d key.Settle w ws e end h part fine p = tt
