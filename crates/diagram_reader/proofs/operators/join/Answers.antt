use Rattle.std.proofs.Common.{◌≡◌, map, Some, None, sym, ap, subst, ◌∙◌}
use Rattle.dpc_model.specs.declared.operators.OpKind.TheVariants.{Join}
use Rattle.script_rules.specs.Spelling.{number}
use Rattle.script_rules.specs.Statements.{pairs}
use Rattle.script_words.specs.Cursors.{words_left}
use Rattle.script_draft.specs.Names.{names_in}
use Rattle.script_draft.specs.Shapes.{HasShape}
use Rattle.diagram_reader.proofs.OperatorLines.{join_inputs, join_within, join_words, join_keys}
use Rattle.diagram_reader.proofs.operators.join.Goals as goal

pub number_at-within-requires : goal.number_at-within-requires
number_at-within-requires c = join_within _ _ c.requires.faultless

pub shape_of_join-shape-requires : goal.shape_of_join-shape-requires
shape_of_join-shape-requires c = join_words _ _ _ c.requires.faultless c.words_from-rest.ensures

pub returns-in-Some : goal.returns-in-Some
returns-in-Some c =
    let fault = c.fault_of_operator.ensures (Join c.number_at-within.result (pairs (map number (words_left c.words_from-rest.result)))) (c.shape_of_join-shape.ensures c.number_at-within.result) in
    rw (c.word-name.ensures, c.names_at-inputs.ensures ∙ join_inputs _ _ c.requires.faultless, c.words_from-rest.ensures) at (sym fault ∙ c.in-Some.is)

pub unreachable-requires : goal.unreachable-requires
unreachable-requires c =
    let rest = words_left c.words_from-rest.result in
    let none = sym (c.fault_of_operator.ensures (Join c.number_at-within.result (pairs (map number rest))) (c.shape_of_join-shape.ensures c.number_at-within.result)) ∙ c.in_default.is in
    let keys = join_keys c.args.draft.now _ rest c.word-name.result.now (names_in c.names_at-inputs.result) c.number_at-within.result c.requires.faultless c.words_from-rest.ensures none in
    let clash : None ≡ Some (pairs (map number rest)) = sym c.in_default-2.is ∙ c.in_ok-keys.ensures ∙ keys in
    absurd cc

pub add_operator-requires-clause-faultless : goal.add_operator-requires-clause-faultless
add_operator-requires-clause-faultless c =
    let rest = words_left c.words_from-rest.result in
    let shape = c.shape_of_join-shape.ensures c.number_at-within.result in
    let none = sym (c.fault_of_operator.ensures (Join c.number_at-within.result (pairs (map number rest))) shape) ∙ c.in_default.is in
    let keys = join_keys c.args.draft.now _ rest c.word-name.result.now (names_in c.names_at-inputs.result) c.number_at-within.result c.requires.faultless c.words_from-rest.ensures none in
    let read : Some c.in-Some-2.keys ≡ Some (pairs (map number rest)) = sym c.in-Some-2.is ∙ c.in_ok-keys.ensures ∙ keys in
    let same : pairs (map number rest) ≡ c.in-Some-2.keys = cc in
    sym (c.fault_of_operator.ensures (Join c.number_at-within.result c.in-Some-2.keys) (subst (λ keys. HasShape (Join c.number_at-within.result keys) c.shape_of_join-shape.result) same shape)) ∙ c.in_default.is

pub returns : goal.returns
returns c =
    let name = c.word-name.ensures in
    let inputs = c.names_at-inputs.ensures ∙ join_inputs _ _ c.requires.faultless in
    let within = c.number_at-within.ensures in
    let rest = words_left c.words_from-rest.result in
    let fault = c.fault_of_operator.ensures (Join c.number_at-within.result (pairs (map number rest))) (c.shape_of_join-shape.ensures c.number_at-within.result) in
    let keys = join_keys c.args.draft.now _ rest c.word-name.result.now (names_in c.names_at-inputs.result) c.number_at-within.result c.requires.faultless c.words_from-rest.ensures (sym fault ∙ c.in_default.is) in
    let read : Some c.in-Some-2.keys ≡ Some (pairs (map number rest)) = sym c.in-Some-2.is ∙ c.in_ok-keys.ensures ∙ keys in
    let same : c.in-Some-2.keys ≡ pairs (map number rest) = cc in
    let words = c.words_from-rest.ensures in
    (rw (name, inputs, words) at (sym fault ∙ c.in_default.is), rw (name, inputs, within, same ∙ ap (λ ws. pairs (map number ws)) words) at c.in_ok-add_operator.ensures.ok)
