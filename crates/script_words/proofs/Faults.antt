-- What the words of a faultless line say.
use Rattle.std.proofs.Common.{◌≡◌, ℕ, zero, suc, ◌+◌, ◌^◌, ◌%◌, ◌<◌, ◌≤◌, Bool, true, false, not, ◌&&◌, ◌||◌, List, [], ◌∷◌, ◌++◌, length, take, drop, map, min, Some, None, refl, sym, ap, subst, ◌∙◌, arith}
use Rattle.std.specs.Prelude.{nat_lt, nat_le, ◌==◌, replicate, slice_get}
use Rattle.std.proofs.lemmas.Bool.{or_parts, or_right, and_parts, and_right, eqb-true, leb-true, lt-ltb, ltb-false, le-ltb}
use Rattle.std.proofs.lemmas.List.{append-nil, drop-drop, replicate-append-replicate}
use Rattle.dpc_lists.specs.Lists.{list_all, list_any}
use Rattle.dpc_model.specs.Words.{Word}
use Rattle.dpc_lists.proofs.Truths.{not-false}
use Rattle.script_rules.specs.declared.reasons.Reason.TheVariants.{ForeignWord, WrongCount, NoNumber, OutOfRange}
use Rattle.script_rules.specs.Spelling.{is_numeral, number, is_value, value, is_i64, looks_like_value}
use Rattle.script_rules.specs.Symbols.{symbol_of, operands, formulas}
use Rattle.script_rules.specs.Places.{must, may, opened, leaves_over, is_foreign, is_no_number, is_out_of_range, is_between, places_of}
use Rattle.script_rules.specs.Drafts.{Draft, greatest_end}
use Rattle.script_rules.specs.Reasons.{first_of_tests, has_foreign_word, has_wrong_length, lacks_number, is_past_range}
use Rattle.script_rules.specs.Statements.{word, pairs}
use Rattle.script_rules.specs.declared.keywords.Keyword.{Keyword}
use Rattle.script_rules.specs.declared.keywords.Keyword.TheVariants as key
use Rattle.script_rules.specs.declared.places.Place.{Place}
use Rattle.script_rules.specs.declared.places.Sort.{Sort}
use Rattle.script_rules.specs.declared.places.Sort.TheVariants.{Name, Actor, Natural, Range, Multiple, Value, Expression, Count, Group, Aggregate, Column, LeftKey, Anything}
use Rattle.script_rules.proofs.Stacks.{are_expressions}
use Rattle.script_words.specs.Numbers.{u64_of}
use Rattle.script_words.specs.Scans.{some_breaks}
use Rattle.script_words.specs.Readable.{AreReadable}
use Rattle.script_words.specs.Operands.{are_i64, are_u64}
use Rattle.script_words.specs.Faultless.{IsFaultless}
use Rattle.script_words.proofs.Taking.{drop-one-more, nth-drop}
use Rattle.script_words.proofs.Spanning.{fewer_formulas}

-- no reason is found
none_found : (f l n r : Bool) → first_of_tests ((f, ForeignWord) ∷ (l, WrongCount) ∷ (n, NoNumber) ∷ (r, OutOfRange) ∷ []) ≡ None → (f ≡ false) × (l ≡ false) × (n ≡ false) × (r ≡ false)
none_found true l n r e = absurd cc
none_found false true n r e = absurd cc
none_found false false true r e = absurd cc
none_found false false false true e = absurd cc
none_found false false false false e = (refl, refl, refl, refl)

pub faultless : (d : Draft) (k : Keyword) (words : List Word) →
    first_of_tests ((has_foreign_word d k words, ForeignWord) ∷ (has_wrong_length d k words, WrongCount) ∷ (lacks_number d k words, NoNumber) ∷ (is_past_range d k words, OutOfRange) ∷ []) ≡ None → IsFaultless d k words
faultless d k words e =
    let n = none_found (has_foreign_word d k words) (has_wrong_length d k words) (lacks_number d k words) (is_past_range d k words) e in
    record { foreign = n.0; length = n.1; number = n.2; range = n.3 }

-- ---- words at places

-- no word at these places breaks a rule, and they are as many as the words
record AreGood (places : List Place) (ws : List Word) : Type 0 where
  foreign : some_breaks is_foreign places ws ≡ false
  length : leaves_over places ws ≡ false
  number : some_breaks is_no_number places ws ≡ false
  range : some_breaks is_out_of_range places ws ≡ false

-- a word that breaks no rule of its place
pub record IsGood (sort : Sort) (w : Word) : Type 0 where
  pub foreign : is_foreign sort w ≡ false
  pub number : is_no_number sort w ≡ false
  pub range : is_out_of_range sort w ≡ false

-- the first word, and those behind it
first_good : (p : Place) (places : List Place) (w : Word) (ws : List Word) → AreGood (p ∷ places) (w ∷ ws) → IsGood p.sort w × AreGood (opened p.sort w ws ++ places) ws
first_good p places w ws g =
    let rest = opened p.sort w ws ++ places in
    let f = or_parts (is_foreign p.sort w) (some_breaks is_foreign rest ws) g.foreign in
    let n = or_parts (is_no_number p.sort w) (some_breaks is_no_number rest ws) g.number in
    let r = or_parts (is_out_of_range p.sort w) (some_breaks is_out_of_range rest ws) g.range in
    (record { foreign = f.0; number = n.0; range = r.0 }, record { foreign = f.1; length = g.length; number = n.1; range = r.1 })

are_good : (d : Draft) (k : Keyword) (places : List Place) (words : List Word) → places ≡ places_of d k → IsFaultless d k words → AreGood places words
are_good d k places words is h = subst (λ ps. AreGood ps words) (sym is) (record { foreign = h.foreign; length = h.length; number = h.number; range = h.range })

-- ---- the word at a place

-- a word there opens no further place
abbrev pub is_closed : Sort → Bool
is_closed Expression = false
is_closed Count = false
is_closed Aggregate = false
is_closed LeftKey = false
is_closed _ = true

opens_none : (sort : Sort) (w : Word) (ws : List Word) → is_closed sort ≡ true → opened sort w ws ≡ []
opens_none Name w ws h = refl
opens_none Actor w ws h = refl
opens_none Natural w ws h = refl
opens_none (Range low high) w ws h = refl
opens_none (Multiple low high of) w ws h = refl
opens_none Value w ws h = refl
opens_none Expression w ws h = absurd cc
opens_none Count w ws h = absurd cc
opens_none Group w ws h = refl
opens_none Aggregate w ws h = absurd cc
opens_none Column w ws h = refl
opens_none LeftKey w ws h = absurd cc
opens_none Anything w ws h = refl

needed_there : (places : List Place) (i : ℕ) (p : Place) → slice_get places i ≡ Some p → p.needed ≡ true → list_any (λ (q : Place). q.needed) places ≡ true
needed_there [] i p is needed = absurd cc
needed_there (q ∷ places) zero p is needed = let same : q ≡ p = cc in ap (λ (x : Place). x.needed || list_any (λ (q : Place). q.needed) places) same ∙ ap (λ t. t || list_any (λ (q : Place). q.needed) places) needed
needed_there (q ∷ places) (suc i) p is needed = ap (λ t. q.needed || t) (needed_there places i p is needed) ∙ or_right q.needed true refl

-- the word that must stand at a place, where those before it open none
good_at : (places : List Place) (i : ℕ) (ws : List Word) (p : Place) → list_all (λ (q : Place). is_closed q.sort) (take i places) ≡ true → slice_get places i ≡ Some p → p.needed ≡ true → AreGood places ws → IsGood p.sort (word ws i)
good_at [] i ws p closed is needed g = absurd cc
good_at (q ∷ places) i [] p closed is needed g = let none : true ≡ false = sym (needed_there (q ∷ places) i p is needed) ∙ g.length in absurd cc
good_at (q ∷ places) zero (w ∷ ws) p closed is needed g = let same : q ≡ p = cc in subst (λ (x : Place). IsGood x.sort w) same (first_good q places w ws g).0
good_at (q ∷ places) (suc i) (w ∷ ws) p closed is needed g =
    let c = and_parts (is_closed q.sort) (list_all (λ (q : Place). is_closed q.sort) (take i places)) closed in
    good_at places i ws p c.1 is needed (subst (λ ps. AreGood (ps ++ places) ws) (opens_none q.sort w ws c.0) (first_good q places w ws g).1)

-- the word at a place where a word must stand, as the one at place 1 of `source NAME COLUMNS`
pub good_word : (d : Draft) (k : Keyword) (words : List Word) (i : ℕ) (sort : Sort) → list_all (λ (q : Place). is_closed q.sort) (take i (places_of d k)) ≡ true → slice_get (places_of d k) i ≡ Some (must sort) → IsFaultless d k words → IsGood sort (word words i)
good_word d k words i sort closed is h = good_at (places_of d k) i words (must sort) closed is refl (are_good d k (places_of d k) words refl h)

between : (low high n : ℕ) → not (is_between low high n) ≡ false → (low ≤ n) × (n ≤ high)
between low high n h =
    let p = and_parts (nat_le low n) (nat_le n high) (not-false (is_between low high n) h) in
    (leb-true low n p.0, leb-true n high p.1)

-- a number at its place
pub ranged : (low high : ℕ) (w : Word) → high < 2 ^ 64 → IsGood (Range low high) w → (u64_of w ≡ Some (number w)) × (low ≤ number w) × (number w ≤ high)
ranged low high w lt g =
    let numeral : is_numeral w ≡ true = not-false (is_numeral w) g.number in
    let b = between low high (number w) g.range in
    (rw (numeral, lt-ltb (number w) (2 ^ 64) (omega (arith, b.1))) refl, b.0, b.1)

pub multiple : (low high of : ℕ) (w : Word) → high < 2 ^ 64 → IsGood (Multiple low high of) w → (u64_of w ≡ Some (number w)) × (low ≤ number w) × (number w ≤ high) × (number w % of ≡ 0)
multiple low high of w lt g =
    let numeral : is_numeral w ≡ true = not-false (is_numeral w) g.number in
    let p = and_parts (is_between low high (number w)) (number w % of == 0) (not-false (is_between low high (number w) && number w % of == 0) g.range) in
    let b = and_parts (nat_le low (number w)) (nat_le (number w) high) p.0 in
    let most : number w ≤ high = leb-true (number w) high b.1 in
    (rw (numeral, lt-ltb (number w) (2 ^ 64) (omega arith)) refl, leb-true low (number w) b.0, most, eqb-true (number w % of) 0 p.1)

-- ---- expressions

fits_there : (looks is_a fits : Bool) → (looks && not is_a) ≡ false → (looks && not fits) ≡ false → (not looks || (is_a && fits)) ≡ true
fits_there false is_a fits h k = refl
fits_there true true true h k = refl
fits_there true true false h k = absurd cc
fits_there true false fits h k = absurd cc

-- words that fill the places of expressions are readable
readable : (n : ℕ) (ws : List Word) → AreGood (replicate n (must Expression)) ws → AreReadable ws
readable n [] g = tt
readable zero (w ∷ ws) g = let more : true ≡ false = g.length in absurd cc
readable (suc n) (w ∷ ws) g =
    let k = operands (symbol_of w) in
    let p = first_good (must Expression) (replicate n (must Expression)) w ws g in
    let rest : AreGood (replicate (k + n) (must Expression)) ws = subst (λ ps. AreGood ps ws) (replicate-append-replicate k n (must Expression)) p.1 in
    let length_is : length (formulas ws) ≡ k + n = are_expressions (k + n) ws rest.length rest.foreign in
    (p.0.foreign, omega arith, fits_there (looks_like_value w) (is_value w) (is_i64 (value w)) p.0.number p.0.range, readable (k + n) ws rest)

-- words behind two names
two_names : (places : List Place) (words : List Word) → AreGood (must Name ∷ must Name ∷ places) words → AreGood places (drop 2 words)
two_names places [] g = let more : true ≡ false = g.length in absurd cc
two_names places (a ∷ []) g = let more : true ≡ false = g.length in absurd cc
two_names places (a ∷ b ∷ ws) g = (first_good (must Name) places b ws (first_good (must Name) (must Name ∷ places) a (b ∷ ws) g).1).1

-- the expression of a filter
pub filter_readable : (d : Draft) (words : List Word) → IsFaultless d key.Filter words → AreReadable (drop 2 words)
filter_readable d words h = readable 1 (drop 2 words) (two_names (must Expression ∷ []) words (are_good d key.Filter _ words refl h))

-- one expression
pub filter_one : (d : Draft) (words : List Word) → IsFaultless d key.Filter words → length (formulas (drop 2 words)) ≡ 1
filter_one d words h = let g = two_names (must Expression ∷ []) words (are_good d key.Filter _ words refl h) in are_expressions 1 (drop 2 words) g.length g.foreign

-- the words behind the number of expressions
behind_count : (words : List Word) → AreGood (must Count ∷ []) words → AreGood (replicate (min (number (word words 0)) (length (drop 1 words) + 1)) (must Expression)) (drop 1 words)
behind_count [] g = let more : true ≡ false = g.length in absurd cc
behind_count (w ∷ ws) g =
    let p = first_good (must Count) [] w ws g in
    let numeral : is_numeral w ≡ true = not-false (is_numeral w) p.0.number in
    let opens : opened Count w ws ++ [] ≡ replicate (min (number w) (length ws + 1)) (must Expression) = append-nil (opened Count w ws) ∙ rw numeral refl in
    subst (λ ps. AreGood ps ws) opens p.1

-- the expressions of a map
map_good : (d : Draft) (words : List Word) → IsFaultless d key.Map words → AreGood (replicate (min (number (word (drop 2 words) 0)) (length (drop 1 (drop 2 words)) + 1)) (must Expression)) (drop 1 (drop 2 words))
map_good d words h = behind_count (drop 2 words) (two_names (must Count ∷ []) words (are_good d key.Map _ words refl h))

pub map_readable : (d : Draft) (words : List Word) → IsFaultless d key.Map words → AreReadable (drop 3 words)
map_readable d words h = subst AreReadable (drop-one-more words 2) (readable _ (drop 1 (drop 2 words)) (map_good d words h))

-- .. are as many as the number before them says
pub map_count : (d : Draft) (words : List Word) → IsFaultless d key.Map words → length (formulas (drop 3 words)) ≡ number (word words 2)
map_count d words h =
    let g = map_good d words h in
    let ws = drop 1 (drop 2 words) in
    let length_is : length (formulas ws) ≡ min (number (word (drop 2 words) 0)) (length ws + 1) = are_expressions _ ws g.length g.foreign in
    let all : length (formulas ws) ≡ number (word (drop 2 words) 0) = omega (arith, length_is, fewer_formulas ws) in
    ap (λ ws. length (formulas ws)) (sym (drop-one-more words 2)) ∙ all ∙ ap number (nth-drop [] words 2)

-- ---- values

numbers_there : (is_a fits : Bool) → not is_a ≡ false → not fits ≡ false → (is_a && fits) ≡ true
numbers_there true true h k = refl
numbers_there true false h k = absurd cc
numbers_there false fits h k = absurd cc

values_there : (n : ℕ) (ws : List Word) → AreGood (replicate n (may Value)) ws → are_i64 ws ≡ true
values_there n [] g = refl
values_there zero (w ∷ ws) g = let more : true ≡ false = g.length in absurd cc
values_there (suc n) (w ∷ ws) g =
    let p = first_good (may Value) (replicate n (may Value)) w ws g in
    rw (numbers_there (is_value w) (is_i64 (value w)) p.0.number p.0.range, values_there n ws p.1) refl

first_value : (n : ℕ) (ws : List Word) → AreGood (must Value ∷ replicate n (may Value)) ws → are_i64 ws ≡ true
first_value n [] g = refl
first_value n (w ∷ ws) g =
    let p = first_good (must Value) (replicate n (may Value)) w ws g in
    rw (numbers_there (is_value w) (is_i64 (value w)) p.0.number p.0.range, values_there n ws p.1) refl

name_and_number : (places : List Place) (words : List Word) → AreGood (must Name ∷ must Natural ∷ places) words → AreGood places (drop 2 words)
name_and_number places [] g = let more : true ≡ false = g.length in absurd cc
name_and_number places (a ∷ []) g = let more : true ≡ false = g.length in absurd cc
name_and_number places (a ∷ b ∷ ws) g = (first_good (must Natural) places b ws (first_good (must Name) (must Natural ∷ places) a (b ∷ ws) g).1).1

-- the values of a log line
pub log_values : (d : Draft) (words : List Word) → IsFaultless d key.Log words → are_i64 (drop 2 words) ≡ true
log_values d words h = first_value 7 (drop 2 words) (name_and_number (must Value ∷ replicate 7 (may Value)) words (are_good d key.Log _ words refl h))

-- ---- keys

keys_there : (n : ℕ) (ws : List Word) → AreGood (replicate n (may LeftKey)) ws → list_all is_numeral ws ≡ true
keys_there n [] g = refl
keys_there zero (l ∷ ws) g = let more : true ≡ false = g.length in absurd cc
keys_there (suc n) (l ∷ []) g = let more : true ≡ false = g.length in absurd cc
keys_there (suc n) (l ∷ r ∷ ws) g =
    let p = first_good (may LeftKey) (replicate n (may LeftKey)) l (r ∷ ws) g in
    let q = first_good (must Natural) (replicate n (may LeftKey)) r ws p.1 in
    rw (not-false (is_numeral l) p.0.number, not-false (is_numeral r) q.0.number, keys_there n ws q.1) refl

-- a key that is no number of u64 is no column
keys_past : (a b : ℕ) → a ≤ 2 ^ 64 → b ≤ 2 ^ 64 → (n : ℕ) (ws : List Word) → AreGood (replicate n (may LeftKey)) ws → are_u64 ws ≡ false →
    list_all (λ (pair : ℕ × ℕ). nat_lt pair.0 a && nat_lt pair.1 b) (pairs (map number ws)) ≡ false
keys_past a b la lb n [] g e = absurd cc
keys_past a b la lb zero (l ∷ ws) g e = let more : true ≡ false = g.length in absurd cc
keys_past a b la lb (suc n) (l ∷ []) g e = let more : true ≡ false = g.length in absurd cc
keys_past a b la lb (suc n) (l ∷ r ∷ ws) g e =
    let p = first_good (may LeftKey) (replicate n (may LeftKey)) l (r ∷ ws) g in
    let q = first_good (must Natural) (replicate n (may LeftKey)) r ws p.1 in
    let left : is_numeral l ≡ true = not-false (is_numeral l) p.0.number in
    let right : is_numeral r ≡ true = not-false (is_numeral r) q.0.number in
    let one_past : (nat_lt (number l) (2 ^ 64) && (nat_lt (number r) (2 ^ 64) && are_u64 ws)) ≡ false =
    ap (λ t. nat_lt (number l) (2 ^ 64) && ((t && nat_lt (number r) (2 ^ 64)) && are_u64 ws)) (sym right)
    ∙ ap (λ t. (t && nat_lt (number l) (2 ^ 64)) && ((is_numeral r && nat_lt (number r) (2 ^ 64)) && are_u64 ws)) (sym left) ∙ e in
    one_fails (nat_lt (number l) (2 ^ 64)) (nat_lt (number r) (2 ^ 64)) (are_u64 ws) _ _ _ one_past (past (number l) a la) (past (number r) b lb) (keys_past a b la lb n ws q.1)
  where
    past : (n a : ℕ) → a ≤ 2 ^ 64 → nat_lt n (2 ^ 64) ≡ false → nat_lt n a ≡ false
    past n a le e = let far : 2 ^ 64 ≤ n = ltb-false n (2 ^ 64) e in le-ltb n a (omega arith)

    one_fails : (s t u x y z : Bool) → (s && (t && u)) ≡ false → (s ≡ false → x ≡ false) → (t ≡ false → y ≡ false) → (u ≡ false → z ≡ false) → ((x && y) && z) ≡ false
    one_fails false t u x y z e f g h = rw (f refl) refl
    one_fails true false u x y z e f g h = ap (λ t. t && z) (ap (λ t. x && t) (g refl) ∙ and_right x false refl)
    one_fails true true u x y z e f g h = and_right (x && y) z (h e)

name_and_range : (low high : ℕ) (places : List Place) (words : List Word) → AreGood (must Name ∷ must (Range low high) ∷ places) words → AreGood places (drop 2 words)
name_and_range low high places [] g = let more : true ≡ false = g.length in absurd cc
name_and_range low high places (a ∷ []) g = let more : true ≡ false = g.length in absurd cc
name_and_range low high places (a ∷ b ∷ ws) g = (first_good (must (Range low high)) places b ws (first_good (must Name) (must (Range low high) ∷ places) a (b ∷ ws) g).1).1

-- the words behind a join's names and its reach
join_good : (d : Draft) (words : List Word) → IsFaultless d key.Join words → AreGood (replicate 8 (may LeftKey)) (drop 4 words)
join_good d words h =
    subst (AreGood (replicate 8 (may LeftKey))) (drop-drop 2 2 words)
    (name_and_range 0 (greatest_end d) (replicate 8 (may LeftKey)) (drop 2 words) (two_names (must Name ∷ must (Range 0 (greatest_end d)) ∷ replicate 8 (may LeftKey)) words (are_good d key.Join _ words refl h)))

pub join_numerals : (d : Draft) (words : List Word) → IsFaultless d key.Join words → list_all is_numeral (drop 4 words) ≡ true
join_numerals d words h = keys_there 8 (drop 4 words) (join_good d words h)

-- a join whose keys are not all of u64 reads a column that isn't there
pub join_past : (d : Draft) (words : List Word) (a b : ℕ) → a ≤ 2 ^ 64 → b ≤ 2 ^ 64 → IsFaultless d key.Join words → are_u64 (drop 4 words) ≡ false →
    list_all (λ (pair : ℕ × ℕ). nat_lt pair.0 a && nat_lt pair.1 b) (pairs (map number (drop 4 words))) ≡ false
join_past d words a b la lb h e = keys_past a b la lb 8 (drop 4 words) (join_good d words h) e
