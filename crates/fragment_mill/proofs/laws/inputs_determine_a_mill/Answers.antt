use Rattle.fragment_mill.proofs.Determined.{same-mills}
use Rattle.fragment_mill.proofs.laws.inputs_determine_a_mill.Goals as goal

pub returns : goal.returns
returns c = same-mills
