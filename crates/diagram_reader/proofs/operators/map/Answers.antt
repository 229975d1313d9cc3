use Rattle.std.proofs.Common.{◌≡◌, drop, sym, ap, ◌∙◌}
use Rattle.dpc_model.specs.declared.operators.OpKind.TheVariants.{Map}
use Rattle.script_rules.specs.Symbols.{formulas}
use Rattle.script_words.specs.Cursors.{words_left}
use Rattle.diagram_reader.proofs.OperatorLines.{map_input, map_number, map_words, map_shape}
use Rattle.diagram_reader.proofs.operators.map.Goals as goal

pub number_at-count-requires : goal.number_at-count-requires
number_at-count-requires c = map_number _ _ c.requires.faultless

pub columns_read-requires : goal.columns_read-requires
columns_read-requires c = map_words _ _ _ c.requires.faultless c.words_from-rest.ensures

pub longest_expression-requires : goal.longest_expression-requires
longest_expression-requires c = map_words _ _ _ c.requires.faultless c.words_from-rest.ensures

pub returns-in-Some : goal.returns-in-Some
returns-in-Some c =
    let rest = c.words_from-rest.ensures in
    let shape = map_shape _ _ _ (formulas (drop 3 (words_left c.args.words))) _ _ _ c.requires.faultless rest (ap formulas (sym rest)) c.columns_read.ensures c.longest_expression.ensures c.number_at-count.ensures in
    rw (c.word-name.ensures, c.names_at-inputs.ensures ∙ map_input _ _ c.requires.faultless) at (sym (c.fault_of_operator.ensures (Map (formulas (drop 3 (words_left c.args.words)))) shape) ∙ c.in-Some.is)

pub read_expressions-requires : goal.read_expressions-requires
read_expressions-requires c = map_words _ _ _ c.requires.faultless c.words_from-rest.ensures

pub add_operator-requires-clause-faultless : goal.add_operator-requires-clause-faultless
add_operator-requires-clause-faultless c =
    let columns = c.from_vec-columns.ensures ∙ c.in_ok-read_expressions.ensures in
    let shape = map_shape _ _ _ c.from_vec-columns.result _ _ _ c.requires.faultless c.words_from-rest.ensures columns c.columns_read.ensures c.longest_expression.ensures c.number_at-count.ensures in
    sym (c.fault_of_operator.ensures (Map c.from_vec-columns.result) shape) ∙ c.in_default.is

pub returns : goal.returns
returns c =
    let rest = c.words_from-rest.ensures in
    let name = c.word-name.ensures in
    let inputs = c.names_at-inputs.ensures ∙ map_input _ _ c.requires.faultless in
    let columns : c.from_vec-columns.result ≡ formulas (drop 3 (words_left c.args.words)) = c.from_vec-columns.ensures ∙ c.in_ok-read_expressions.ensures ∙ ap formulas rest in
    let shape = map_shape _ _ _ (formulas (drop 3 (words_left c.args.words))) _ _ _ c.requires.faultless rest (ap formulas (sym rest)) c.columns_read.ensures c.longest_expression.ensures c.number_at-count.ensures in
    (rw (name, inputs) at (sym (c.fault_of_operator.ensures (Map (formulas (drop 3 (words_left c.args.words)))) shape) ∙ c.in_default.is), rw (name, inputs, columns) at c.in_ok-add_operator.ensures.ok)
