-- The words of expressions are read as these expressions, and fill exactly their places.
use Rattle.std.proofs.Common.{◌≡◌, List, [], ◌∷◌, ◌++◌, refl, ap, ◌∙◌}
use Rattle.std.specs.Prelude.{⊤, flat_map, replicate}
use Rattle.std.specs.Fmt.{signed_decimal}
use Rattle.std.proofs.lemmas.List.{append_assoc}
use Rattle.dpc_model.specs.Words.{Word}
use Rattle.dpc_model.specs.ScriptText.{column_word, binary_word, formula_words}
use Rattle.dpc_model.specs.Formula.{Formula, Col, Num, Time, Neg, Not, Bin, If}
use Rattle.dpc_model.specs.declared.expressions.BinOp.{BinOp}
use Rattle.dpc_model.specs.declared.expressions.BinOp.TheVariants.{Add, Sub, Mul, Min, Max, Lt, Le, Gt, Ge, Eq, Ne, And, Or}
use Rattle.script_rules.specs.Symbols.{Symbol, Whole, One, Two, Three, symbol_of, operands, applied, formulas}
use Rattle.script_rules.specs.Places.{must, leaves_over}
use Rattle.script_rules.specs.declared.places.Place.{Place}
use Rattle.script_rules.specs.declared.places.Sort.TheVariants.{Expression}

-- its columns and numbers are words that stand for them
abbrev pub IsSpelled : Formula → Type 0
IsSpelled (Col i) = symbol_of (column_word i) ≡ Whole (Col i)
IsSpelled (Num z) = symbol_of (signed_decimal z) ≡ Whole (Num z)
IsSpelled Time = ⊤
IsSpelled (Neg e) = IsSpelled e
IsSpelled (Not e) = IsSpelled e
IsSpelled (Bin op d e) = IsSpelled d × IsSpelled e
IsSpelled (If c d e) = IsSpelled c × IsSpelled d × IsSpelled e

abbrev pub AreSpelled : List Formula → Type 0
AreSpelled [] = ⊤
AreSpelled (e ∷ es) = IsSpelled e × AreSpelled es

pub symbol_of-binary : (op : BinOp) → symbol_of (binary_word op) ≡ Two op
symbol_of-binary Add = refl
symbol_of-binary Sub = refl
symbol_of-binary Mul = refl
symbol_of-binary Min = refl
symbol_of-binary Max = refl
symbol_of-binary Lt = refl
symbol_of-binary Le = refl
symbol_of-binary Gt = refl
symbol_of-binary Ge = refl
symbol_of-binary Eq = refl
symbol_of-binary Ne = refl
symbol_of-binary And = refl
symbol_of-binary Or = refl

-- the words of two expressions, and of three
pub two_parts : (d e ws : List Word) → (d ++ e) ++ ws ≡ d ++ (e ++ ws)
two_parts d e ws = append_assoc d e ws

pub three_parts : (c d e ws : List Word) → ((c ++ d) ++ e) ++ ws ≡ c ++ (d ++ (e ++ ws))
three_parts c d e ws = append_assoc (c ++ d) e ws ∙ append_assoc c d (e ++ ws)

-- an expression's words are read as that expression
pub formulas-words : (e : Formula) (ws : List Word) → IsSpelled e → formulas (formula_words e ++ ws) ≡ e ∷ formulas ws
formulas-words (Col i) ws h = ap (λ s. applied s (formulas ws)) h
formulas-words (Num z) ws h = ap (λ s. applied s (formulas ws)) h
formulas-words Time ws h = refl
formulas-words (Neg e) ws h = ap (applied (One Neg)) (formulas-words e ws h)
formulas-words (Not e) ws h = ap (applied (One Not)) (formulas-words e ws h)
formulas-words (Bin op d e) ws h =
    let behind : formulas ((formula_words d ++ formula_words e) ++ ws) ≡ d ∷ e ∷ formulas ws =
    ap formulas (two_parts (formula_words d) (formula_words e) ws) ∙ formulas-words d (formula_words e ++ ws) h.0 ∙ ap (λ es. d ∷ es) (formulas-words e ws h.1) in
    ap (λ s. applied s (formulas ((formula_words d ++ formula_words e) ++ ws))) (symbol_of-binary op) ∙ ap (applied (Two op)) behind
formulas-words (If c d e) ws h =
    let behind : formulas (((formula_words c ++ formula_words d) ++ formula_words e) ++ ws) ≡ c ∷ d ∷ e ∷ formulas ws =
    ap formulas (three_parts (formula_words c) (formula_words d) (formula_words e) ws) ∙ formulas-words c (formula_words d ++ (formula_words e ++ ws)) h.0
    ∙ ap (λ es. c ∷ es) (formulas-words d (formula_words e ++ ws) h.1 ∙ ap (λ es. d ∷ es) (formulas-words e ws h.2)) in
    ap (applied Three) behind

-- expressions one behind another
pub formulas-all : (es : List Formula) → AreSpelled es → formulas (flat_map formula_words es) ≡ es
formulas-all [] h = refl
formulas-all (e ∷ es) h = formulas-words e (flat_map formula_words es) h.0 ∙ ap (λ more. e ∷ more) (formulas-all es h.1)

-- a word at an expression's place opens the places of its operands
opens : (w : Word) (s : Symbol) (places : List Place) (ws : List Word) → symbol_of w ≡ s → leaves_over (must Expression ∷ places) (w ∷ ws) ≡ leaves_over (replicate (operands s) (must Expression) ++ places) ws
opens w s places ws e = ap (λ s. leaves_over (replicate (operands s) (must Expression) ++ places) ws) e

-- an expression's words fill the place of an expression, and no more
pub leaves_over-words : (e : Formula) (places : List Place) (ws : List Word) → IsSpelled e → leaves_over (must Expression ∷ places) (formula_words e ++ ws) ≡ leaves_over places ws
leaves_over-words (Col i) places ws h = opens (column_word i) (Whole (Col i)) places ws h
leaves_over-words (Num z) places ws h = opens (signed_decimal z) (Whole (Num z)) places ws h
leaves_over-words Time places ws h = refl
leaves_over-words (Neg e) places ws h = leaves_over-words e places ws h
leaves_over-words (Not e) places ws h = leaves_over-words e places ws h
leaves_over-words (Bin op d e) places ws h =
    opens (binary_word op) (Two op) places ((formula_words d ++ formula_words e) ++ ws) (symbol_of-binary op)
    ∙ ap (leaves_over (must Expression ∷ must Expression ∷ places)) (two_parts (formula_words d) (formula_words e) ws)
    ∙ leaves_over-words d (must Expression ∷ places) (formula_words e ++ ws) h.0 ∙ leaves_over-words e places ws h.1
leaves_over-words (If c d e) places ws h =
    ap (leaves_over (must Expression ∷ must Expression ∷ must Expression ∷ places)) (three_parts (formula_words c) (formula_words d) (formula_words e) ws)
    ∙ leaves_over-words c (must Expression ∷ must Expression ∷ places) (formula_words d ++ (formula_words e ++ ws)) h.0
    ∙ leaves_over-words d (must Expression ∷ places) (formula_words e ++ ws) h.1 ∙ leaves_over-words e places ws h.2
