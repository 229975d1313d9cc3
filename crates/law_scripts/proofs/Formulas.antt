-- What is printed of an expression stands at its places.
use Rattle.std.proofs.Common.{◌≡◌, ℕ, ◌+◌, ◌^◌, ◌<◌, ◌≤◌, true, false, List, [], ◌∷◌, ◌++◌, map, length, refl, sym, ap, subst, ◌∙◌, arith}
use Rattle.std.specs.Prelude.{ℤ, not, ◌&&◌, flat_map, min, if◌then◌else◌}
use Rattle.std.specs.Fmt.{decimal, signed_decimal}
use Rattle.std.proofs.Math.ListN.{replicate}
use Rattle.std.proofs.Math.Nat.{min-eq_left}
use Rattle.std.proofs.lemmas.Bool.{and_parts, ltb-true}
use Rattle.std.proofs.lemmas.List.{append-nil, length-append}
use Rattle.dpc_lists.specs.Lists.{list_all}
use Rattle.dpc_model.specs.Words.{Word}
use Rattle.dpc_model.specs.ScriptText.{column_word, binary_word, formula_words}
use Rattle.dpc_model.specs.Formula.{Formula, Col, Num, Time, Neg, Not, Bin, If}
use Rattle.dpc_model.specs.declared.expressions.BinOp.{BinOp}
use Rattle.dpc_model.specs.declared.expressions.BinOp.TheVariants.{Add, Sub, Mul, Min, Max, Lt, Le, Gt, Ge, Eq, Ne, And, Or}
use Rattle.script_rules.specs.declared.places.Sort.TheVariants.{Expression, Count, Anything}
use Rattle.script_rules.specs.declared.places.Place.{Place}
use Rattle.script_rules.specs.Spelling.{is_numeral, number, is_i64, looks_like_value}
use Rattle.script_rules.specs.Symbols.{Symbol, Whole, Two, symbol_of, operands, is_foreign_symbol}
use Rattle.script_rules.specs.Places.{must, may, opened, is_between, is_foreign, is_no_number, is_out_of_range}
use Rattle.script_rules.specs.Checking.{is_formula_in_range}
use Rattle.script_rules.proofs.Numerals.{is_numeral-decimal, number-decimal, signed_is_value, symbol_of-signed, symbol_of-column}
use Rattle.script_rules.proofs.Expressions.{symbol_of-binary, two_parts, three_parts}
use Rattle.script_rules.proofs.Ranges.{between}
use Rattle.law_scripts.proofs.Lines.{is_plain}
use Rattle.law_scripts.proofs.Plain.{plain_signed, plain_column}
use Rattle.law_scripts.proofs.Fits.{Stands, Fits}
use Rattle.law_scripts.proofs.Placing.{count_stands}

-- ---- the words

-- a word that computes
spelled_stands : (w : Word) → is_plain w ≡ true → is_foreign Expression w ≡ false → is_no_number Expression w ≡ false → is_out_of_range Expression w ≡ false → Stands Expression w
spelled_stands w p s n r = record { plain = p; sorted = s; number = n; range = r }

binary_stands : (op : BinOp) → Stands Expression (binary_word op)
binary_stands Add = spelled_stands _ refl refl refl refl
binary_stands Sub = spelled_stands _ refl refl refl refl
binary_stands Mul = spelled_stands _ refl refl refl refl
binary_stands Min = spelled_stands _ refl refl refl refl
binary_stands Max = spelled_stands _ refl refl refl refl
binary_stands Lt = spelled_stands _ refl refl refl refl
binary_stands Le = spelled_stands _ refl refl refl refl
binary_stands Gt = spelled_stands _ refl refl refl refl
binary_stands Ge = spelled_stands _ refl refl refl refl
binary_stands Eq = spelled_stands _ refl refl refl refl
binary_stands Ne = spelled_stands _ refl refl refl refl
binary_stands And = spelled_stands _ refl refl refl refl
binary_stands Or = spelled_stands _ refl refl refl refl

column_stands_too : (c : ℕ) → c < 8 → Stands Expression (column_word c)
column_stands_too c h =
    record { plain = plain_column c (omega arith); sorted = ap is_foreign_symbol (symbol_of-column c h); number = refl; range = refl }

number_stands_too : (z : ℤ) → is_i64 z ≡ true → Stands Expression (signed_decimal z)
number_stands_too z h =
    let v = signed_is_value z h in
    record {
      plain = plain_signed z h;
      sorted = ap is_foreign_symbol (symbol_of-signed z h);
      number = ap (λ t. looks_like_value (signed_decimal z) && not t) v.0 ∙ ap (λ t. t && false) v.2;
      range = ap (λ y. looks_like_value (signed_decimal z) && not (is_i64 y)) v.1 ∙ ap (λ t. looks_like_value (signed_decimal z) && not t) h ∙ ap (λ t. t && false) v.2;
    }

-- ---- expressions

abbrev expressions : ℕ → List Place
expressions n = replicate n (must Expression)

-- a word and the operands behind it
one_word : (w : Word) (s : Symbol) (places : List Place) (ws : List Word) → symbol_of w ≡ s → Stands Expression w → Fits (expressions (operands s) ++ places) ws → Fits (must Expression ∷ places) (w ∷ ws)
one_word w s places ws e h k = (h, subst (λ s. Fits (expressions (operands s) ++ places) ws) (sym e) k)

pub formula_fits : (e : Formula) (places : List Place) (ws : List Word) → is_formula_in_range e ≡ true → Fits places ws → Fits (must Expression ∷ places) (formula_words e ++ ws)
formula_fits (Col c) places ws h k =
    let low : c < 8 = ltb-true c 8 h in
    one_word (column_word c) (Whole (Col c)) places ws (symbol_of-column c low) (column_stands_too c low) k
formula_fits (Num z) places ws h k = one_word (signed_decimal z) (Whole (Num z)) places ws (symbol_of-signed z h) (number_stands_too z h) k
formula_fits Time places ws h k = (spelled_stands _ refl refl refl refl, k)
formula_fits (Neg e) places ws h k = (spelled_stands _ refl refl refl refl, formula_fits e places ws h k)
formula_fits (Not e) places ws h k = (spelled_stands _ refl refl refl refl, formula_fits e places ws h k)
formula_fits (Bin op d e) places ws h k =
    let p = and_parts (is_formula_in_range d) (is_formula_in_range e) h in
    let both = formula_fits d (must Expression ∷ places) (formula_words e ++ ws) p.0 (formula_fits e places ws p.1 k) in
    one_word (binary_word op) (Two op) places ((formula_words d ++ formula_words e) ++ ws) (symbol_of-binary op) (binary_stands op)
    (subst (Fits (must Expression ∷ must Expression ∷ places)) (sym (two_parts (formula_words d) (formula_words e) ws)) both)
formula_fits (If c d e) places ws h k =
    let p = and_parts (is_formula_in_range c && is_formula_in_range d) (is_formula_in_range e) h in
    let q = and_parts (is_formula_in_range c) (is_formula_in_range d) p.0 in
    let two = formula_fits d (must Expression ∷ places) (formula_words e ++ ws) q.1 (formula_fits e places ws p.1 k) in
    let three = formula_fits c (must Expression ∷ must Expression ∷ places) (formula_words d ++ (formula_words e ++ ws)) q.0 two in
    (spelled_stands _ refl refl refl refl, subst (Fits (must Expression ∷ must Expression ∷ must Expression ∷ places)) (sym (three_parts (formula_words c) (formula_words d) (formula_words e) ws)) three)

pub one_formula_fits : (e : Formula) → is_formula_in_range e ≡ true → Fits (must Expression ∷ []) (formula_words e)
one_formula_fits e h = subst (Fits (must Expression ∷ [])) (append-nil (formula_words e)) (formula_fits e [] [] h refl)

formulas_fit : (es : List Formula) → list_all is_formula_in_range es ≡ true → Fits (expressions (length es)) (flat_map formula_words es)
formulas_fit [] h = refl
formulas_fit (e ∷ es) h =
    let p = and_parts (is_formula_in_range e) (list_all is_formula_in_range es) h in
    formula_fits e (expressions (length es)) (flat_map formula_words es) p.0 (formulas_fit es p.1)

-- ---- as many as a number says

some_words : (e : Formula) → 1 ≤ length (formula_words e)
some_words (Col c) = omega arith
some_words (Num z) = omega arith
some_words Time = omega arith
some_words (Neg e) = omega arith
some_words (Not e) = omega arith
some_words (Bin op d e) = omega arith
some_words (If c d e) = omega arith

pub enough_words : (es : List Formula) → length es ≤ length (flat_map formula_words es)
enough_words [] = omega arith
enough_words (e ∷ es) =
    let one = some_words e in
    let more = enough_words es in
    let all : length (formula_words e ++ flat_map formula_words es) ≡ length (formula_words e) + length (flat_map formula_words es) = length-append (formula_words e) (flat_map formula_words es) in
    omega (arith, one, more, all)

counted : (n : ℕ) (ws : List Word) → n < 2 ^ 64 → n ≤ length ws → opened Count (decimal n) ws ++ [] ≡ expressions n
counted n ws low few =
    let numeral : is_numeral (decimal n) ≡ true = is_numeral-decimal n low in
    let is : number (decimal n) ≡ n = number-decimal n low in
    let least : min n (length ws + 1) ≡ n = min-eq_left (omega (arith, few)) in
    append-nil (opened Count (decimal n) ws)
    ∙ ap (λ t. if t then replicate (min (number (decimal n)) (length ws + 1)) (must Expression) else map (λ _. may Anything) ws) numeral
    ∙ ap (λ m. expressions (min m (length ws + 1))) is ∙ ap expressions least

pub count_fits : (es : List Formula) → is_between 1 8 (length es) ≡ true → list_all is_formula_in_range es ≡ true → Fits (must Count ∷ []) (decimal (length es) ∷ flat_map formula_words es)
count_fits es few h =
    let most = (between 1 8 (length es) few).1 in
    let low : length es < 2 ^ 64 = omega (arith, most) in
    (count_stands (length es) low few, subst (λ places. Fits places (flat_map formula_words es)) (sym (counted (length es) (flat_map formula_words es) low (enough_words es))) (formulas_fit es h))
