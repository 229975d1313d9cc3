use Rattle.fragment_mill.proofs.Determined.{same-engines}
use Rattle.fragment_mill.proofs.operator.OperatorEngine.same.Goals as goal

pub returns-in-Union-Union-clause-determined : goal.returns-in-Union-Union-clause-determined
returns-in-Union-Union-clause-determined c = λ xs k t. same-engines c.args.self.now c.args.other.now xs k t.wide t.made_of t.unspent t.took
