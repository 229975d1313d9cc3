use Rattle.std.proofs.Common.{◌∙◌, sym}
use Rattle.dpc_model.specs.declared.operators.OpKind.TheVariants.{Union}
use Rattle.trial_texts.proofs.drafts.add_operator.Goals as goal

pub add_operator-requires-clause-faultless : goal.add_operator-requires-clause-faultless
add_operator-requires-clause-faultless c = sym (c.fault_of_operator.ensures Union tt) ∙ c.in-None.is
