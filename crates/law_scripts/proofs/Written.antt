-- What is read of the words of expressions, aggregates and keys is written by these words.
use Rattle.std.proofs.Common.{◌≡◌, ℕ, zero, suc, ◌+◌, ◌-◌, ◌^◌, ◌<◌, ◌≤◌, Bool, true, false, List, [], ◌∷◌, ◌++◌, map, length, Option, Some, None, refl, sym, ap, subst, ◌∙◌, arith}
use Rattle.std.specs.Prelude.{⊤, pos, negsuc, not, ◌&&◌, ◌==◌, nat_lt, nat_le, flat_map, min, codes, bytes_eq, unwrap_or, option_map, find, if◌then◌else◌}
use Rattle.std.specs.Fmt.{decimal, signed_decimal}
use Rattle.std.proofs.Math.ListN.{replicate}
use Rattle.std.proofs.lemmas.Fmt.{decimal_digit}
use Rattle.std.proofs.lemmas.Bool.{and_parts, not-true, not-false, eqb-true, leb-true}
use Rattle.std.proofs.lemmas.List.{append-nil}
use Rattle.dpc_lists.specs.Lists.{nth}
use Rattle.dpc_model.specs.Words.{Word}
use Rattle.dpc_model.specs.ScriptText.{column_word, binary_word, formula_words}
use Rattle.dpc_model.specs.Formula.{Formula, Num, Time}
use Rattle.script_rules.specs.declared.places.Sort.TheVariants.{Expression, Count, Anything}
use Rattle.script_rules.specs.Spelling.{is_numeral, number, is_value, value, is_i64, looks_like_value, column_of}
use Rattle.script_rules.specs.Keywords.{looked_up}
use Rattle.script_rules.specs.Symbols.{Symbol, Whole, One, Two, Three, Foreign, symbols, column_or_symbol, symbol_of, operands, is_foreign_symbol, applied, formulas, formula_of}
use Rattle.script_rules.specs.Places.{must, may, opened, is_between}
use Rattle.script_rules.proofs.Numerals.{numeral_is, i64_from_zero, i64_below_zero}
use Rattle.script_rules.proofs.Apart.{same_word}
use Rattle.script_rules.proofs.Expressions.{two_parts, three_parts}
use Rattle.script_rules.proofs.Stacks.{one_more, behind}
use Rattle.script_rules.proofs.Ranges.{between}
use Rattle.law_scripts.proofs.Formulas.{enough_words}
use Rattle.law_scripts.proofs.Filling.{Keeps, Fills}

-- ---- tables

-- what holds of each row
abbrev pub EachRow : {A : Type 0} → (Word → A → Type 0) → List (Word × A) → Type 0
EachRow P [] = ⊤
EachRow P (row ∷ rows) = P row.0 row.1 × EachRow P rows

-- holds of what is looked up
pub looked : {A : Type 0} (P : Word → A → Type 0) (rows : List (Word × A)) (w : Word) (x : A) → EachRow P rows → looked_up rows w ≡ Some x → P w x
looked P [] w x h e = absurd cc
looked P (row ∷ rows) w x h e =
    (elim (bytes_eq row.0 w) as (λ t. bytes_eq row.0 w ≡ t → option_map (λ (row : Word × _). row.1) (if t then Some row else find (λ row. bytes_eq row.0 w) rows) ≡ Some x → P w x) [
      | true ↦ λ same e.
          let is : row.1 ≡ x = cc in
          subst (P w) is (subst (λ v. P v row.1) (same_word row.0 w same) h.0)
      | false ↦ λ other e. looked P rows w x h.1 e
    ]) refl e

-- ---- values

-- digits that are not those of 0
positive : (w : Word) → is_numeral w ≡ true → bytes_eq w (codes "0") ≡ false → number w < 2 ^ 64 → 0 < number w
positive w h other low = at (number w) refl
  where
    at : (n : ℕ) → number w ≡ n → 0 < number w
    at zero e =
        let spelled : w ≡ decimal (number w) = numeral_is w h low in
        let nought : w ≡ codes "0" = spelled ∙ ap decimal e ∙ decimal_digit 0 (omega arith) in
        let wrong : bytes_eq w (codes "0") ≡ true = ap (λ v. bytes_eq v (codes "0")) nought in
        absurd cc
    at (suc n) e = omega (arith, e)

minus_back : (bs : Word) → is_numeral bs ≡ true → bytes_eq bs (codes "0") ≡ false → is_i64 (negsuc (number bs - 1)) ≡ true → 45 ∷ bs ≡ signed_decimal (negsuc (number bs - 1))
minus_back bs h other range =
    let low = i64_below_zero (number bs - 1) range in
    let above = positive bs h other (omega (arith, low)) in
    let same : number bs ≡ suc (number bs - 1) = omega (arith, above) in
    ap (λ w. 45 ∷ w) (numeral_is bs h (omega (arith, low)) ∙ ap decimal same)

pub value_back : (w : Word) → is_value w ≡ true → is_i64 (value w) ≡ true → w ≡ signed_decimal (value w)
value_back [] h range = absurd cc
value_back (b ∷ bs) h range =
    (elim (b == 45) as (λ t. (b == 45) ≡ t → (if t then is_numeral bs && not (bytes_eq bs (codes "0")) else is_numeral (b ∷ bs)) ≡ true → is_i64 (if t then negsuc (number bs - 1) else pos (number (b ∷ bs))) ≡ true → b ∷ bs ≡ signed_decimal (if t then negsuc (number bs - 1) else pos (number (b ∷ bs)))) [
      | true ↦ λ e h range.
          let p = and_parts (is_numeral bs) (not (bytes_eq bs (codes "0"))) h in
          let other : bytes_eq bs (codes "0") ≡ false = not-true (bytes_eq bs (codes "0")) p.1 in
          ap (λ n. n ∷ bs) (eqb-true b 45 e) ∙ minus_back bs p.0 other range
      | false ↦ λ e h range.
          let low = i64_from_zero (number (b ∷ bs)) range in
          numeral_is (b ∷ bs) h (omega (arith, low))
    ]) refl h range

-- ---- columns

pub record IsColumn (w : Word) (c : ℕ) : Type 0 where
  pub spelled : w ≡ column_word c
  pub low : c < 8

column_digits : (c d n : ℕ) → (if c == 99 && nat_le 48 d && nat_le d 55 then Some (d - 48) else None) ≡ Some n → IsColumn (c ∷ d ∷ []) n
column_digits c d n e =
    (elim (c == 99 && nat_le 48 d && nat_le d 55) as (λ t. (c == 99 && nat_le 48 d && nat_le d 55) ≡ t → (if t then Some (d - 48) else None) ≡ Some n → IsColumn (c ∷ d ∷ []) n) [
      | true ↦ λ is e.
          let p = and_parts (c == 99 && nat_le 48 d) (nat_le d 55) is in
          let q = and_parts (c == 99) (nat_le 48 d) p.0 in
          let first : c ≡ 99 = eqb-true c 99 q.0 in
          let least : 48 ≤ d = leb-true 48 d q.1 in
          let most : d ≤ 55 = leb-true d 55 p.1 in
          let place : d - 48 ≡ n = cc in
          let digit : d ≡ 48 + n = omega (arith, least, place) in
          let word : decimal n ≡ (48 + n) ∷ [] = decimal_digit n (omega (arith, least, most, place)) in
          record { spelled = ap (λ b. b ∷ d ∷ []) first ∙ ap (λ b. 99 ∷ b ∷ []) digit ∙ ap (λ l. 99 ∷ l) (sym word); low = omega (arith, least, most, place) }
      | false ↦ λ is e. absurd cc
    ]) refl e

pub column_back : (w : Word) (c : ℕ) → column_of w ≡ Some c → IsColumn w c
column_back [] c e = absurd cc
column_back (b ∷ []) c e = absurd cc
column_back (b ∷ d ∷ []) c e = column_digits b d c e
column_back (b ∷ d ∷ x ∷ w) c e = absurd cc

-- ---- expressions

-- a word of that symbol
abbrev IsWordOf : Word → Symbol → Type 0
IsWordOf w (Whole e) = formula_words e ≡ w ∷ []
IsWordOf w (One make) = (e : Formula) → formula_words (make e) ≡ w ∷ formula_words e
IsWordOf w (Two op) = binary_word op ≡ w
IsWordOf w Three = codes "if" ≡ w
IsWordOf w Foreign = ⊤

each_symbol : EachRow IsWordOf symbols
each_symbol = (refl, (λ e. refl, (λ e. refl, (refl, (refl, (refl, (refl, (refl, (refl, (refl, (refl, (refl, (refl, (refl, (refl, (refl, (refl, tt)))))))))))))))))

in_table : (w : Word) (o : Option Symbol) → looked_up symbols w ≡ o → IsWordOf w (unwrap_or o Foreign)
in_table w None e = tt
in_table w (Some s) e = looked IsWordOf symbols w s each_symbol e

column_or_table : (w : Word) (o : Option ℕ) → column_of w ≡ o → IsWordOf w (column_or_symbol o w)
column_or_table w None e = in_table w (looked_up symbols w) refl
column_or_table w (Some c) e = ap (λ v. v ∷ []) (sym (column_back w c e).spelled)

word_of : (w : Word) → Keeps Expression w → IsWordOf w (symbol_of w)
word_of w k =
    (elim (looks_like_value w) as (λ t. (t && not (is_value w)) ≡ false → (t && not (is_i64 (value w))) ≡ false → IsWordOf w (if t then Whole (Num (value w)) else column_or_symbol (column_of w) w)) [
      | true ↦ λ n r. ap (λ v. v ∷ []) (sym (value_back w (not-false (is_value w) n) (not-false (is_i64 (value w)) r)))
      | false ↦ λ n r. column_or_table w (column_of w) refl
    ]) k.number k.range

-- what an operator's word makes of the expressions behind it is written by that word and theirs
applied_words : (w : Word) (s : Symbol) (n : ℕ) (es : List Formula) → IsWordOf w s → is_foreign_symbol s ≡ false → length es ≡ operands s + n → flat_map formula_words (applied s es) ≡ w ∷ flat_map formula_words es
applied_words w (Whole e) n es h k many = ap (λ l. l ++ flat_map formula_words es) h
applied_words w (One make) n [] h k many = absurd (omega (arith, many))
applied_words w (One make) n (e ∷ es) h k many = ap (λ l. l ++ flat_map formula_words es) (h e)
applied_words w (Two op) n [] h k many = absurd (omega (arith, many))
applied_words w (Two op) n (d ∷ []) h k many = absurd (omega (arith, many))
applied_words w (Two op) n (d ∷ e ∷ es) h k many = ap (λ v. v ∷ ((formula_words d ++ formula_words e) ++ flat_map formula_words es)) h ∙ ap (λ l. w ∷ l) (two_parts (formula_words d) (formula_words e) (flat_map formula_words es))
applied_words w Three n [] h k many = absurd (omega (arith, many))
applied_words w Three n (c ∷ []) h k many = absurd (omega (arith, many))
applied_words w Three n (c ∷ d ∷ []) h k many = absurd (omega (arith, many))
applied_words w Three n (c ∷ d ∷ e ∷ es) h k many =
    ap (λ v. v ∷ (((formula_words c ++ formula_words d) ++ formula_words e) ++ flat_map formula_words es)) h ∙ ap (λ l. w ∷ l) (three_parts (formula_words c) (formula_words d) (formula_words e) (flat_map formula_words es))
applied_words w Foreign n es h k many = absurd cc

-- words of n expressions
pub record AreWordsOf (n : ℕ) (ws : List Word) : Type 0 where
  pub count : length (formulas ws) ≡ n
  pub words : flat_map formula_words (formulas ws) ≡ ws

pub expressions_back : (n : ℕ) (ws : List Word) → Fills (replicate n (must Expression)) ws → AreWordsOf n ws
expressions_back zero [] h = record { count = refl; words = refl }
expressions_back (suc n) [] h = absurd cc
expressions_back zero (w ∷ ws) h = absurd h
expressions_back (suc n) (w ∷ ws) h =
    let rest : Fills (replicate (operands (symbol_of w) + n) (must Expression)) ws = subst (λ places. Fills places ws) (behind w n) h.1 in
    let k = expressions_back (operands (symbol_of w) + n) ws rest in
    let known : is_foreign_symbol (symbol_of w) ≡ false = h.0.sorted in
    record {
      count = one_more (symbol_of w) n (formulas ws) k.count known;
      words = applied_words w (symbol_of w) n (formulas ws) (word_of w h.0) known k.count ∙ ap (λ l. w ∷ l) k.words;
    }

first_of : (es : List Formula) → length es ≡ 1 → es ≡ nth Time es 0 ∷ []
first_of [] h = absurd (omega (arith, h))
first_of (e ∷ []) h = refl
first_of (e ∷ d ∷ es) h = absurd (omega (arith, h))

pub expression_back : (ws : List Word) → Fills (must Expression ∷ []) ws → formula_words (formula_of ws) ≡ ws
expression_back ws h =
    let k = expressions_back 1 ws h in
    sym (append-nil (formula_words (formula_of ws))) ∙ ap (flat_map formula_words) (sym (first_of (formulas ws) k.count)) ∙ k.words

-- as many as their number says
pub record IsCounted (w : Word) (ws : List Word) : Type 0 where
  pub many : length (formulas ws) ≡ number w
  pub count : decimal (length (formulas ws)) ≡ w
  pub words : flat_map formula_words (formulas ws) ≡ ws

counted_words : (w : Word) (ws : List Word) → is_numeral w ≡ true → Keeps Count w → Fills (replicate (min (number w) (length ws + 1)) (must Expression)) ws → IsCounted w ws
counted_words w ws numeral k h =
    let most = (between 1 8 (number w) (not-false (is_between 1 8 (number w)) k.range)).1 in
    let all = expressions_back (min (number w) (length ws + 1)) ws h in
    let few = enough_words (formulas ws) in
    let size : length (flat_map formula_words (formulas ws)) ≡ length ws = ap length all.words in
    let count = all.count in
    let less : min (number w) (length ws + 1) ≤ length ws = omega (arith, few, size, count) in
    let same : length (formulas ws) ≡ number w = omega (arith, count, less) in
    record { many = same; count = ap decimal same ∙ sym (numeral_is w numeral (omega (arith, most))); words = all.words }

-- that many expressions
pub count_places : (w : Word) (ws : List Word) → Keeps Count w → opened Count w ws ++ [] ≡ replicate (min (number w) (length ws + 1)) (must Expression)
count_places w ws k =
    append-nil (opened Count w ws) ∙ ap (λ t. if t then replicate (min (number w) (length ws + 1)) (must Expression) else map (λ _. may Anything) ws) (not-false (is_numeral w) k.number)

pub count_back : (w : Word) (ws : List Word) → Keeps Count w → Fills (opened Count w ws ++ []) ws → IsCounted w ws
count_back w ws k h = counted_words w ws (not-false (is_numeral w) k.number) k (subst (λ p. Fills p ws) (count_places w ws k) h)

-- ---- what is said of words at their places

abbrev pub low_key : ℕ → ℕ → ℕ × ℕ → Bool
low_key left right pair = nat_lt pair.0 left && nat_lt pair.1 right

-- the column that is named behind a word
abbrev pub column_behind : List Word → ℕ
column_behind ws = unwrap_or (column_of (nth [] ws 0)) 0
