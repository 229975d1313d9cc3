-- Words that fill the places of expressions are as many expressions.
use Rattle.std.proofs.Common.{◌≡◌, ℕ, zero, suc, ◌+◌, Bool, false, List, [], ◌∷◌, ◌++◌, length, refl, sym, ap, ◌∙◌, arith}
use Rattle.std.specs.Prelude.{replicate}
use Rattle.std.proofs.lemmas.Bool.{or_parts}
use Rattle.std.proofs.lemmas.List.{replicate-append-replicate}
use Rattle.dpc_lists.specs.Lists.{list_any}
use Rattle.dpc_model.specs.Words.{Word}
use Rattle.dpc_model.specs.Formula.{Formula}
use Rattle.script_rules.specs.Symbols.{Symbol, Whole, One, Two, Three, Foreign, symbol_of, operands, is_foreign_symbol, applied, formulas}
use Rattle.script_rules.specs.Places.{must, placed, leaves_over, is_foreign}
use Rattle.script_rules.specs.declared.places.Place.{Place}
use Rattle.script_rules.specs.declared.places.Sort.{Sort}
use Rattle.script_rules.specs.declared.places.Sort.TheVariants.{Expression}

-- an operator with its operands is one expression
pub one_more : (s : Symbol) (n : ℕ) (es : List Formula) → length es ≡ operands s + n → is_foreign_symbol s ≡ false → length (applied s es) ≡ suc n
one_more (Whole e) n es h k = ap suc (h ∙ omega arith)
one_more (One make) n [] h k = absurd (omega arith)
one_more (One make) n (e ∷ es) h k = omega arith
one_more (Two op) n [] h k = absurd (omega arith)
one_more (Two op) n (d ∷ []) h k = absurd (omega arith)
one_more (Two op) n (d ∷ e ∷ es) h k = omega arith
one_more Three n [] h k = absurd (omega arith)
one_more Three n (c ∷ []) h k = absurd (omega arith)
one_more Three n (c ∷ d ∷ []) h k = absurd (omega arith)
one_more Three n (c ∷ d ∷ e ∷ es) h k = omega arith
one_more Foreign n es h k = absurd cc

-- some word at a place of an expression is none of its words
abbrev pub has_foreign : List Place → List Word → Bool
has_foreign places ws = list_any (λ (x : Sort × Word). is_foreign x.0 x.1) (placed places ws)

-- the places behind a word
pub behind : (w : Word) (n : ℕ) → replicate (operands (symbol_of w)) (must Expression) ++ replicate n (must Expression) ≡ replicate (operands (symbol_of w) + n) (must Expression)
behind w n = replicate-append-replicate (operands (symbol_of w)) n (must Expression)

-- words that fill n places, each by one of an expression's words, are n expressions
pub are_expressions : (n : ℕ) (ws : List Word) → leaves_over (replicate n (must Expression)) ws ≡ false → has_foreign (replicate n (must Expression)) ws ≡ false → length (formulas ws) ≡ n
are_expressions zero [] fill known = refl
are_expressions (suc n) [] fill known = absurd cc
are_expressions zero (w ∷ ws) fill known = absurd cc
are_expressions (suc n) (w ∷ ws) fill known =
    let p = or_parts (is_foreign_symbol (symbol_of w)) (has_foreign (replicate (operands (symbol_of w)) (must Expression) ++ replicate n (must Expression)) ws) known in
    let rest_fill : leaves_over (replicate (operands (symbol_of w) + n) (must Expression)) ws ≡ false = ap (λ places. leaves_over places ws) (sym (behind w n)) ∙ fill in
    let rest_known : has_foreign (replicate (operands (symbol_of w) + n) (must Expression)) ws ≡ false = ap (λ places. has_foreign places ws) (sym (behind w n)) ∙ p.1 in
    one_more (symbol_of w) n (formulas ws) (are_expressions (operands (symbol_of w) + n) ws rest_fill rest_known) p.0
