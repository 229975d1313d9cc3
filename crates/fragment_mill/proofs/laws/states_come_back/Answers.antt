use Rattle.fragment_mill.proofs.Resumes.{all-come-back}
use Rattle.fragment_mill.proofs.laws.states_come_back.Goals as goal

pub returns : goal.returns
returns c = all-come-back
