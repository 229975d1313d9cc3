use Rattle.std.proofs.Common.{sym, ap, ◌∙◌}
use Rattle.dpc_model.specs.declared.operators.OpKind.TheVariants.{Aggregate}
use Rattle.script_rules.specs.Spelling.{column_of}
use Rattle.script_rules.specs.Symbols.{aggs_of}
use Rattle.diagram_reader.proofs.OperatorLines.{aggregate_input, aggregate_size, aggregate_step}
use Rattle.diagram_reader.proofs.operators.aggregate.Goals as goal

pub number_at-size-requires : goal.number_at-size-requires
number_at-size-requires c = aggregate_size _ _ c.requires.faultless

pub number_at-step-requires : goal.number_at-step-requires
number_at-step-requires c = aggregate_step _ _ c.requires.faultless

pub returns-in-Some : goal.returns-in-Some
returns-in-Some c =
    let inputs = c.names_at-inputs.ensures ∙ aggregate_input _ _ c.requires.faultless in
    let group = c.column_of-group.ensures.column ∙ ap column_of c.word.ensures in
    let aggs = c.in_ok-aggs.ensures ∙ ap aggs_of c.words_from-rest.ensures in
    let fault = c.fault_of_operator.ensures (Aggregate c.number_at-size.result c.number_at-step.result c.column_of-group.result c.in_ok-aggs.aggs) c.shape_of_aggregate-shape.ensures in
    rw (c.word-name.ensures, inputs, c.number_at-size.ensures, c.number_at-step.ensures, group, aggs) at (sym fault ∙ c.in-Some.is)

pub add_operator-requires-clause-faultless : goal.add_operator-requires-clause-faultless
add_operator-requires-clause-faultless c =
    sym (c.fault_of_operator.ensures (Aggregate c.number_at-size.result c.number_at-step.result c.column_of-group.result c.in_ok-aggs.aggs) c.shape_of_aggregate-shape.ensures) ∙ c.in_default.is

pub returns : goal.returns
returns c =
    let name = c.word-name.ensures in
    let inputs = c.names_at-inputs.ensures ∙ aggregate_input _ _ c.requires.faultless in
    let size = c.number_at-size.ensures in
    let step = c.number_at-step.ensures in
    let group = c.column_of-group.ensures.column ∙ ap column_of c.word.ensures in
    let aggs = c.in_ok-aggs.ensures ∙ ap aggs_of c.words_from-rest.ensures in
    let fault = c.fault_of_operator.ensures (Aggregate c.number_at-size.result c.number_at-step.result c.column_of-group.result c.in_ok-aggs.aggs) c.shape_of_aggregate-shape.ensures in
    (rw (name, inputs, size, step, group, aggs) at (sym fault ∙ c.in_default.is), rw (name, inputs, size, step, group, aggs) at c.in_ok-add_operator.ensures.ok)
