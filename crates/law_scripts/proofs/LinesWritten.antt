-- A line against which there is no reason has the words of what it says.
use Rattle.std.proofs.Common.{◌≡◌, ℕ, zero, suc, ◌+◌, ◌^◌, ◌<◌, true, false, List, [], ◌∷◌, map, length, ◌-◌, refl, sym, ap, ◌∙◌, arith}
use Rattle.std.specs.Prelude.{not, ◌&&◌, ◌==◌, ◌%◌, nat_lt, flat_map, codes, if◌then◌else◌}
use Rattle.std.specs.Fmt.{decimal, signed_decimal}
use Rattle.std.proofs.Math.ListN.{replicate}
use Rattle.std.proofs.lemmas.Bool.{not-false, and_parts, or_parts, ltb-true, ltb-false}
use Rattle.std.proofs.lemmas.List.{append-nil}
use Rattle.dpc_lists.specs.Lists.{nth, is_nil}
use Rattle.dpc_model.specs.Words.{Word}
use Rattle.dpc_model.specs.ScriptText.{agg_words, group_word}
use Rattle.dpc_model.specs.Columns.{kind_columns}
use Rattle.dpc_model.specs.declared.operators.OpKind.{OpKind}
use Rattle.dpc_model.specs.declared.operators.OpKind.TheVariants as kind
use Rattle.script_rules.specs.declared.keywords.Keyword.{Keyword}
use Rattle.script_rules.specs.declared.keywords.Keyword.TheVariants as key
use Rattle.script_rules.specs.declared.places.Sort.{Sort}
use Rattle.script_rules.specs.declared.places.Sort.TheVariants.{Name, Actor, Range, Multiple, Value, Aggregate}
use Rattle.script_rules.specs.declared.places.Place.{Place}
use Rattle.script_rules.specs.Spelling.{number, value, column_of}
use Rattle.script_rules.specs.Symbols.{formulas, aggs_of}
use Rattle.script_rules.specs.Statements.{word, number_at, pairs, statement_of}
use Rattle.script_rules.specs.Places.{must, may, is_between, places_of}
use Rattle.script_rules.specs.Drafts.{Draft, has_header, greatest_end, end_of, is_wide}
use Rattle.script_rules.specs.Reasons.{is_its_part, declares, fits_inputs, input_columns}
use Rattle.script_rules.proofs.Passing.{IsFine, greatest_end-fits}
use Rattle.script_rules.proofs.Ranges.{between}
use Rattle.law_scripts.proofs.Aggregates.{key_words}
use Rattle.law_scripts.proofs.Filling.{Fills, numeral_back, range_back}
use Rattle.law_scripts.proofs.Written.{expression_back, count_back}
use Rattle.law_scripts.proofs.Rewritten.{group_written, values_written, keys_written, aggs_written}
use Rattle.law_scripts.proofs.Saying.{words_said, keyword_word, is_keyword}

-- ---- few words

range_alone : (low high : ℕ) (first : Word) (ws : List Word) → high < 2 ^ 64 → Fills (must (Range low high) ∷ []) ws → first ∷ ws ≡ first ∷ decimal (number_at ws 0) ∷ []
range_alone low high first [] few h = absurd cc
range_alone low high first (w ∷ []) few h = ap (λ v. first ∷ v ∷ []) (range_back low high w few h.0)
range_alone low high first (w ∷ v ∷ ws) few h = absurd h.1

multiple_alone : (low high of : ℕ) (first : Word) (ws : List Word) → high < 2 ^ 64 → Fills (must (Multiple low high of) ∷ []) ws → first ∷ ws ≡ first ∷ decimal (number_at ws 0) ∷ []
multiple_alone low high of first [] few h = absurd cc
multiple_alone low high of first (w ∷ []) few h =
    let p = and_parts (is_between low high (number w)) (number w % of == 0) (not-false (is_between low high (number w) && number w % of == 0) h.0.range) in
    let most = (between low high (number w) p.0).1 in
    ap (λ v. first ∷ v ∷ []) (numeral_back w h.0.number (omega (arith, most, few)))
multiple_alone low high of first (w ∷ v ∷ ws) few h = absurd h.1

name_and_range : (low high : ℕ) (first : Word) (ws : List Word) → high < 2 ^ 64 → Fills (must Name ∷ must (Range low high) ∷ []) ws → first ∷ ws ≡ first ∷ word ws 0 ∷ decimal (number_at ws 1) ∷ []
name_and_range low high first [] few h = absurd cc
name_and_range low high first (a ∷ []) few h = absurd cc
name_and_range low high first (a ∷ w ∷ []) few h = ap (λ v. first ∷ a ∷ v ∷ []) (range_back low high w few h.1.0)
name_and_range low high first (a ∷ w ∷ v ∷ ws) few h = absurd h.1.1

two_names : (first : Word) (ws : List Word) → Fills (must Name ∷ must Name ∷ []) ws → first ∷ ws ≡ first ∷ word ws 0 ∷ word ws 1 ∷ []
two_names first [] h = absurd cc
two_names first (a ∷ []) h = absurd cc
two_names first (a ∷ b ∷ []) h = refl
two_names first (a ∷ b ∷ v ∷ ws) h = absurd h.1.1

two_actors : (first : Word) (ws : List Word) → Fills (must Actor ∷ must Actor ∷ []) ws → first ∷ ws ≡ first ∷ word ws 0 ∷ word ws 1 ∷ []
two_actors first [] h = absurd cc
two_actors first (a ∷ []) h = absurd cc
two_actors first (a ∷ b ∷ []) h = refl
two_actors first (a ∷ b ∷ v ∷ ws) h = absurd h.1.1

one_actor : (first : Word) (ws : List Word) → Fills (must Actor ∷ []) ws → first ∷ ws ≡ first ∷ word ws 0 ∷ []
one_actor first [] h = absurd cc
one_actor first (a ∷ []) h = refl
one_actor first (a ∷ v ∷ ws) h = absurd h.1

no_word : (first : Word) (ws : List Word) → Fills [] ws → first ∷ ws ≡ first ∷ []
no_word first [] h = refl
no_word first (w ∷ ws) h = absurd h

-- a place where a word must stand is one where it may
loosened : (sort : Sort) (places : List Place) (ws : List Word) → Fills (must sort ∷ places) ws → Fills (may sort ∷ places) ws
loosened sort places [] h = absurd cc
loosened sort places (w ∷ ws) h = h

-- ---- line by line

low_width : (d : Draft) → (if is_wide d then 2 ^ 50 else 1000000) < 2 ^ 64
low_width d = elim (is_wide d) as (λ t. (if t then 2 ^ 50 else 1000000) < 2 ^ 64) [ true ↦ omega arith | false ↦ omega arith ]

abbrev HasItsWords : Keyword → List Word → Type 0
HasItsWords k ws = keyword_word k ∷ ws ≡ words_said (statement_of k ws)

header_written : (d : Draft) (place : ℕ) (ws : List Word) → nat_lt place 5 ≡ true → Fills (places_of d (key.Header place)) ws → HasItsWords (key.Header place) ws
header_written d zero ws low h = range_alone 1 3 _ ws (omega arith) h
header_written d (suc zero) ws low h = range_alone 1 _ _ ws (low_width d) h
header_written d (suc (suc zero)) ws low h = range_alone 0 (10 ^ 12) _ ws (omega arith) h
header_written d (suc (suc (suc zero))) ws low h = multiple_alone _ (greatest_end d) _ _ ws (greatest_end-fits d) h
header_written d (suc (suc (suc (suc zero)))) ws low h = range_alone 0 1 _ ws (omega arith) h
header_written d (suc (suc (suc (suc (suc place))))) ws low h = let few = ltb-true (suc (suc (suc (suc (suc place))))) 5 low in absurd (omega (arith, few))

log_written : (d : Draft) (ws : List Word) → end_of d < 2 ^ 62 → Fills (places_of d key.Log) ws → IsFine d (statement_of key.Log ws) → HasItsWords key.Log ws
log_written d [] end h fine = absurd cc
log_written d (a ∷ []) end h fine = absurd cc
log_written d (a ∷ b ∷ ws) end h fine =
    let tests = or_parts (nat_lt (number b) _) (not (nat_lt (number b) (end_of d))) fine.time in
    let below = ltb-true (number b) (end_of d) (not-false (nat_lt (number b) (end_of d)) tests.1) in
    let time : b ≡ decimal (number b) = numeral_back b h.1.0.number (omega (arith, below, end)) in
    let vals : map signed_decimal (map value ws) ≡ ws = values_written 8 ws (loosened Value (replicate 7 (may Value)) ws h.1.1) in
    ap (λ v. codes "log" ∷ a ∷ v ∷ ws) time ∙ ap (λ l. codes "log" ∷ a ∷ decimal (number b) ∷ l) (sym vals)

fragment_written : (d : Draft) (ws : List Word) → Fills (places_of d key.Fragment) ws → HasItsWords key.Fragment ws
fragment_written d [] h = absurd cc
fragment_written d (a ∷ []) h = absurd cc
fragment_written d (a ∷ b ∷ ws) h = ap (λ v. codes "fragment" ∷ a ∷ v ∷ ws) (range_back 1 4 b (omega arith) h.1.0)

filter_written : (d : Draft) (ws : List Word) → Fills (places_of d key.Filter) ws → HasItsWords key.Filter ws
filter_written d [] h = absurd cc
filter_written d (n ∷ []) h = absurd cc
filter_written d (n ∷ i ∷ ws) h = ap (λ l. codes "filter" ∷ n ∷ i ∷ l) (sym (expression_back ws h.1.1))

map_written : (d : Draft) (ws : List Word) → Fills (places_of d key.Map) ws → HasItsWords key.Map ws
map_written d [] h = absurd cc
map_written d (n ∷ []) h = absurd cc
map_written d (n ∷ i ∷ []) h = absurd cc
map_written d (n ∷ i ∷ c ∷ ws) h =
    let k = count_back c ws h.1.1.0 h.1.1.1 in
    ap (λ v. codes "map" ∷ n ∷ i ∷ v ∷ ws) (sym k.count) ∙ ap (λ l. codes "map" ∷ n ∷ i ∷ decimal (length (formulas ws)) ∷ l) (sym k.words)

union_written : (d : Draft) (ws : List Word) → Fills (places_of d key.Union) ws → HasItsWords key.Union ws
union_written d [] h = absurd cc
union_written d (n ∷ ws) h = ap (λ l. codes "union" ∷ n ∷ l) (sym (append-nil ws))

join_written : (d : Draft) (ws : List Word) → Fills (places_of d key.Join) ws → IsFine d (statement_of key.Join ws) → HasItsWords key.Join ws
join_written d [] h fine = absurd cc
join_written d (n ∷ []) h fine = absurd cc
join_written d (n ∷ i ∷ []) h fine = absurd cc
join_written d (n ∷ i ∷ j ∷ []) h fine = absurd cc
join_written d (n ∷ i ∷ j ∷ w ∷ ws) h fine =
    let keys = pairs (map number ws) in
    let k : OpKind = kind.Join (number w) keys in
    let columns = input_columns d (i ∷ j ∷ []) in
    let tests = or_parts (not (fits_inputs k columns)) (nat_lt 8 (kind_columns k columns)) fine.columns in
    let few = ltb-false 8 (nth 0 columns 0 + nth 0 columns 1) tests.1 in
    let within : w ≡ decimal (number w) = range_back 0 (greatest_end d) w (greatest_end-fits d) h.1.1.1.0 in
    let back : flat_map key_words keys ≡ ws = keys_written 8 (nth 0 columns 0) (nth 0 columns 1) ws (omega (arith, few)) (omega (arith, few)) h.1.1.1.1 (not-false (fits_inputs k columns) tests.0) in
    ap (λ v. codes "join" ∷ n ∷ i ∷ j ∷ v ∷ ws) within ∙ ap (λ l. codes "join" ∷ n ∷ i ∷ j ∷ decimal (number w) ∷ l) (sym back)

aggregate_written : (d : Draft) (ws : List Word) → Fills (places_of d key.Aggregate) ws → HasItsWords key.Aggregate ws
aggregate_written d [] h = absurd cc
aggregate_written d (n ∷ []) h = absurd cc
aggregate_written d (n ∷ i ∷ []) h = absurd cc
aggregate_written d (n ∷ i ∷ x ∷ []) h = absurd cc
aggregate_written d (n ∷ i ∷ x ∷ y ∷ []) h = absurd cc
aggregate_written d (n ∷ i ∷ x ∷ y ∷ g ∷ ws) h =
    let size : x ≡ decimal (number x) = range_back 1 (greatest_end d) x (greatest_end-fits d) h.1.1.0 in
    let step : y ≡ decimal (number y) = range_back 1 (greatest_end d) y (greatest_end-fits d) h.1.1.1.0 in
    let group : group_word (column_of g) ≡ g = group_written g h.1.1.1.1.0 in
    let aggs : flat_map agg_words (aggs_of ws) ≡ ws = aggs_written 8 ws (loosened Aggregate (replicate 7 (may Aggregate)) ws h.1.1.1.1.1) in
    ap (λ v. codes "aggregate" ∷ n ∷ i ∷ v ∷ y ∷ g ∷ ws) size ∙ ap (λ v. codes "aggregate" ∷ n ∷ i ∷ decimal (number x) ∷ v ∷ g ∷ ws) step
    ∙ ap (λ v. codes "aggregate" ∷ n ∷ i ∷ decimal (number x) ∷ decimal (number y) ∷ v ∷ ws) (sym group)
    ∙ ap (λ l. codes "aggregate" ∷ n ∷ i ∷ decimal (number x) ∷ decimal (number y) ∷ group_word (column_of g) ∷ l) (sym aggs)

-- ---- any line

-- the end is low where it is known
abbrev pub HasLowEnd : Draft → Type 0
HasLowEnd d = has_header d ≡ true → end_of d < 2 ^ 62

pub line_written : (d : Draft) (k : Keyword) (ws : List Word) → is_keyword k ≡ true → HasLowEnd d → (d.begun ≡ true → has_header d ≡ true) → Fills (places_of d k) ws → is_its_part d k ≡ true → IsFine d (statement_of k ws) → HasItsWords k ws
line_written d (key.Header place) ws known end whole h part fine = header_written d place ws known h
line_written d key.Source ws known end whole h part fine = name_and_range 1 8 (codes "source") ws (omega arith) h
line_written d key.Log ws known end whole h part fine =
    let a = and_parts (declares d && is_nil d.frags) (is_nil d.clients) part in
    let b = and_parts (declares d) (is_nil d.frags) a.0 in
    log_written d ws (end (and_parts (has_header d) (not d.begun) b.0).0) h fine
line_written d key.Fragment ws known end whole h part fine = fragment_written d ws h
line_written d key.Patience ws known end whole h part fine = range_alone 0 (10 ^ 12) (codes "patience") ws (omega arith) h
line_written d key.Filter ws known end whole h part fine = filter_written d ws h
line_written d key.Map ws known end whole h part fine = map_written d ws h
line_written d key.Union ws known end whole h part fine = union_written d ws h
line_written d key.Join ws known end whole h part fine = join_written d ws h fine
line_written d key.Aggregate ws known end whole h part fine = aggregate_written d ws h
line_written d key.Client ws known end whole h part fine = two_names (codes "client") ws h
line_written d key.Begin ws known end whole h part fine = no_word (codes "begin") ws h
line_written d key.Emit ws known end whole h part fine =
    let low = end (whole (and_parts d.begun (not d.settle) part).0) in
    name_and_range 1 (end_of d) (codes "emit") ws (omega (arith, low)) h
line_written d key.Release ws known end whole h part fine =
    let low = end (whole (and_parts d.begun (not d.settle) part).0) in
    name_and_range 1 (end_of d) (codes "release") ws (omega (arith, low)) h
line_written d key.Cut ws known end whole h part fine = two_actors (codes "cut") ws h
line_written d key.Heal ws known end whole h part fine = two_actors (codes "heal") ws h
line_written d key.Lose ws known end whole h part fine = two_actors (codes "lose") ws h
line_written d key.Repeat ws known end whole h part fine = two_actors (codes "repeat") ws h
line_written d key.Crash ws known end whole h part fine = one_actor (codes "crash") ws h
line_written d key.Restart ws known end whole h part fine = one_actor (codes "restart") ws h
line_written d key.Tick ws known end whole h part fine = range_alone 0 (10 ^ 12) (codes "tick") ws (omega arith) h
line_written d key.Settle ws known end whole h part fine = no_word (codes "settle") ws h
