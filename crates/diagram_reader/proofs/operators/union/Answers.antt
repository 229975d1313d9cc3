use Rattle.std.proofs.Common.{sym, ◌∙◌}
use Rattle.dpc_model.specs.declared.operators.OpKind.TheVariants.{Union}
use Rattle.diagram_reader.proofs.operators.union.Goals as goal

pub returns-in-Some : goal.returns-in-Some
returns-in-Some c = rw (c.word-name.ensures, c.all_names-inputs.ensures) at (sym (c.fault_of_operator.ensures Union tt) ∙ c.in-Some.is)

pub add_operator-requires-clause-faultless : goal.add_operator-requires-clause-faultless
add_operator-requires-clause-faultless c = sym (c.fault_of_operator.ensures Union tt) ∙ c.in_default.is

pub returns : goal.returns
returns c =
    let name = c.word-name.ensures in
    let inputs = c.all_names-inputs.ensures in
    (rw (name, inputs) at (sym (c.fault_of_operator.ensures Union tt) ∙ c.in_default.is), rw (name, inputs) at c.in_ok-add_operator.ensures.ok)
