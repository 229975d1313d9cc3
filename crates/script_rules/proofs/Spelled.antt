-- The expressions that are in range are spelled by their words.
use Rattle.std.proofs.Common.{◌≡◌, true, List, [], ◌∷◌, map, refl, ◌∙◌}
use Rattle.std.specs.Prelude.{◌&&◌, flat_map}
use Rattle.std.proofs.lemmas.Bool.{and_parts, ltb-true}
use Rattle.dpc_lists.specs.Lists.{list_all}
use Rattle.dpc_model.specs.ScriptText.{formula_words}
use Rattle.dpc_model.specs.Formula.{Formula, Col, Num, Time, Neg, Not, Bin, If}
use Rattle.script_rules.specs.Places.{must}
use Rattle.script_rules.specs.declared.places.Sort.TheVariants.{Expression}
use Rattle.script_rules.specs.Checking.{is_formula_in_range}
use Rattle.script_rules.specs.Laws.{ReadsExpressions, FillsExpressions}
use Rattle.script_rules.proofs.Numerals.{symbol_of-signed, symbol_of-column}
use Rattle.script_rules.proofs.Expressions.{IsSpelled, AreSpelled, formulas-all, leaves_over-words}

pub spelled : (e : Formula) → is_formula_in_range e ≡ true → IsSpelled e
spelled (Col c) h = symbol_of-column c (ltb-true _ _ h)
spelled (Num z) h = symbol_of-signed z h
spelled Time h = tt
spelled (Neg e) h = spelled e h
spelled (Not e) h = spelled e h
spelled (Bin op d e) h =
    let p = and_parts (is_formula_in_range d) (is_formula_in_range e) h in
    (spelled d p.0, spelled e p.1)
spelled (If c d e) h =
    let p = and_parts (is_formula_in_range c && is_formula_in_range d) (is_formula_in_range e) h in
    let q = and_parts (is_formula_in_range c) (is_formula_in_range d) p.0 in
    (spelled c q.0, spelled d q.1, spelled e p.1)

pub all_spelled : (es : List Formula) → list_all is_formula_in_range es ≡ true → AreSpelled es
all_spelled [] h = tt
all_spelled (e ∷ es) h =
    let p = and_parts (is_formula_in_range e) (list_all is_formula_in_range es) h in
    (spelled e p.0, all_spelled es p.1)

pub reads_expressions : ReadsExpressions
reads_expressions es h = formulas-all es (all_spelled es h)

pub fills_expressions : FillsExpressions
fills_expressions [] h = refl
fills_expressions (e ∷ es) h =
    let p = and_parts (is_formula_in_range e) (list_all is_formula_in_range es) h in
    leaves_over-words e (map (λ d. must Expression) es) (flat_map formula_words es) (spelled e p.0) ∙ fills_expressions es p.1
