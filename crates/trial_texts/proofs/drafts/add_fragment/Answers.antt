use Rattle.std.proofs.Common.{◌∙◌, sym}
use Rattle.trial_texts.proofs.drafts.add_fragment.Goals as goal

pub add_fragment-requires-clause-faultless : goal.add_fragment-requires-clause-faultless
add_fragment-requires-clause-faultless c = sym (c.fault_of_fragment.ensures 2) ∙ c.in-None.is
