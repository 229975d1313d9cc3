-- Expressions, read from their last word on.
use Rattle.std.proofs.Common.{◌≡◌, true, not, ◌&&◌, ◌||◌, List, [], ◌∷◌, ◌++◌, Option, refl, sym, ap, ◌∙◌}
use Rattle.std.specs.Prelude.{ℤ, pos}
use Rattle.std.specs.Option.{unwrap_or}
use Rattle.std.proofs.lemmas.Bool.{and_parts}
use Rattle.dpc_lists.specs.Lists.{list_all}
use Rattle.dpc_model.specs.Words.{Word}
use Rattle.dpc_model.specs.Formula as formula
use Rattle.dpc_model.specs.Formula.{Formula}
use Rattle.script_rules.specs.Spelling.{looks_like_value, is_value, value, is_i64}
use Rattle.script_rules.specs.Symbols as spec
use Rattle.script_rules.specs.Symbols.{symbol_of, column_or_symbol, applied, formulas}
use Rattle.script_words.specs.Numbers.{i64_of}
use Rattle.script_words.specs.Symbols.{meant, StandsFor}
use Rattle.script_words.specs.Readable.{is_in_range, AreReadable}
use Rattle.script_words.specs.declared.symbols.Symbol.{Symbol}
use Rattle.script_words.specs.declared.symbols.Symbol.TheVariants.{Column, Number, Time, Neg, Not, Two, Three, Foreign}

-- ---- what code's symbols stand for

-- a number in range is its value
number_meant : (w : Word) (z : Option ℤ) → looks_like_value w ≡ true → z ≡ i64_of w → is_in_range w ≡ true → symbol_of w ≡ spec.Whole (formula.Num (unwrap_or z (pos 0)))
number_meant w z looks is fits =
    let fit : (is_value w && is_i64 (value w)) ≡ true = ap (λ t. not t || (is_value w && is_i64 (value w))) (sym looks) ∙ fits in
    rw (looks, is, fit) refl

pub symbol_meant : (s : Symbol) (w : Word) → StandsFor s w → is_in_range w ≡ true → symbol_of w ≡ meant s
symbol_meant (Number z) w s fits = number_meant w z s.0 s.1 fits
symbol_meant (Column c) w s fits = s.1
symbol_meant Time w s fits = s.1
symbol_meant Neg w s fits = s.1
symbol_meant Not w s fits = s.1
symbol_meant (Two op) w s fits = s.1
symbol_meant Three w s fits = s.1
symbol_meant Foreign w s fits = s.1

-- ---- from the last word on

-- the expressions that words make of those behind them
abbrev pub formulas_onto : List Word → List Formula → List Formula
formulas_onto [] es = es
formulas_onto (w ∷ ws) es = applied (symbol_of w) (formulas_onto ws es)

onto_none : (ws : List Word) → formulas_onto ws [] ≡ formulas ws
onto_none [] = refl
onto_none (w ∷ ws) = ap (applied (symbol_of w)) (onto_none ws)

onto_last : (ws : List Word) (w : Word) (es : List Formula) → formulas_onto (ws ++ w ∷ []) es ≡ formulas_onto ws (applied (symbol_of w) es)
onto_last [] w es = refl
onto_last (v ∷ ws) w es = ap (applied (symbol_of v)) (onto_last ws w es)

in_range : (ws : List Word) → AreReadable ws → list_all is_in_range ws ≡ true
in_range [] h = refl
in_range (w ∷ ws) h = rw (h.2, in_range ws h.3) refl

-- what is left, and what was made
pub record IsMade (all left : List Word) (made : List Formula) : Type 0 where
  pub fits : list_all is_in_range left ≡ true
  pub makes : formulas_onto left made ≡ formulas all

pub none_made : (all : List Word) → AreReadable all → IsMade all all []
none_made all h = record { fits = in_range all h; makes = onto_none all }

split_last : (ws : List Word) (w : Word) → list_all is_in_range (ws ++ w ∷ []) ≡ true → (list_all is_in_range ws ≡ true) × (is_in_range w ≡ true)
split_last [] w h = (refl, (and_parts (is_in_range w) true h).0)
split_last (v ∷ ws) w h =
    let p = and_parts (is_in_range v) (list_all is_in_range (ws ++ w ∷ [])) h in
    let q = split_last ws w p.1 in
    (rw (p.0, q.0) refl, q.1)

-- one more word
pub one_made : (all left before : List Word) (w : Word) (s : Symbol) (made more : List Formula) → left ≡ before ++ w ∷ [] → StandsFor s w → more ≡ applied (meant s) made → IsMade all left made → IsMade all before more
one_made all left before w s made more at stands is h =
    let q = split_last before w (ap (list_all is_in_range) (sym at) ∙ h.fits) in
    record {
      fits = q.0;
      makes =
          ap (formulas_onto before) (is ∙ ap (λ t. applied t made) (sym (symbol_meant s w stands q.1)))
          ∙ sym (onto_last before w made) ∙ ap (λ ws. formulas_onto ws made) (sym at) ∙ h.makes;
    }

-- the first word
pub all_made : (all left : List Word) (made : List Formula) → left ≡ [] → IsMade all left made → made ≡ formulas all
all_made all left made none h = ap (λ ws. formulas_onto ws made) (sym none) ∙ h.makes
