use Rattle.std.proofs.Common.{◌≡◌, drop, sym, ap, ◌∙◌}
use Rattle.dpc_model.specs.Formula as formula
use Rattle.dpc_lists.specs.Lists.{nth}
use Rattle.dpc_model.specs.declared.operators.OpKind.TheVariants.{Filter}
use Rattle.script_rules.specs.Symbols.{formula_of}
use Rattle.script_words.specs.Cursors.{words_left}
use Rattle.diagram_reader.proofs.OperatorLines.{filter_input, filter_words, filter_single, filter_shape}
use Rattle.diagram_reader.proofs.operators.filter.Goals as goal

pub columns_read-requires : goal.columns_read-requires
columns_read-requires c = filter_words _ _ _ c.requires.faultless c.words_from-rest.ensures

pub longest_expression-requires : goal.longest_expression-requires
longest_expression-requires c = filter_words _ _ _ c.requires.faultless c.words_from-rest.ensures

pub returns-in-Some : goal.returns-in-Some
returns-in-Some c =
    let rest = c.words_from-rest.ensures in
    let shape = filter_shape _ _ _ (formula_of (drop 2 (words_left c.args.words))) _ _ c.requires.faultless rest (ap formula_of (sym rest)) c.columns_read.ensures c.longest_expression.ensures in
    rw (c.word-name.ensures, c.names_at-inputs.ensures ∙ filter_input _ _ c.requires.faultless) at (sym (c.fault_of_operator.ensures (Filter (formula_of (drop 2 (words_left c.args.words)))) shape) ∙ c.in-Some.is)

pub read_expressions-requires : goal.read_expressions-requires
read_expressions-requires c = filter_words _ _ _ c.requires.faultless c.words_from-rest.ensures

pub only-test-requires : goal.only-test-requires
only-test-requires c = rw c.in_ok-read_expressions.ensures (filter_single _ _ _ c.requires.faultless c.words_from-rest.ensures)

pub add_operator-requires-clause-faultless : goal.add_operator-requires-clause-faultless
add_operator-requires-clause-faultless c =
    let test = c.only-test.ensures ∙ ap (λ es. nth formula.Time es 0) c.in_ok-read_expressions.ensures in
    let shape = filter_shape _ _ _ c.only-test.result _ _ c.requires.faultless c.words_from-rest.ensures test c.columns_read.ensures c.longest_expression.ensures in
    sym (c.fault_of_operator.ensures (Filter c.only-test.result) shape) ∙ c.in_default.is

pub returns : goal.returns
returns c =
    let rest = c.words_from-rest.ensures in
    let name = c.word-name.ensures in
    let inputs = c.names_at-inputs.ensures ∙ filter_input _ _ c.requires.faultless in
    let test : c.only-test.result ≡ formula_of (drop 2 (words_left c.args.words)) = c.only-test.ensures ∙ ap (λ es. nth formula.Time es 0) c.in_ok-read_expressions.ensures ∙ ap formula_of rest in
    let shape = filter_shape _ _ _ (formula_of (drop 2 (words_left c.args.words))) _ _ c.requires.faultless rest (ap formula_of (sym rest)) c.columns_read.ensures c.longest_expression.ensures in
    (rw (name, inputs) at (sym (c.fault_of_operator.ensures (Filter (formula_of (drop 2 (words_left c.args.words)))) shape) ∙ c.in_default.is), rw (name, inputs, test) at c.in_ok-add_operator.ensures.ok)
