use Rattle.ops_stateless.proofs.Standing.{same-unions}
use Rattle.ops_stateless.proofs.union.UnionEngine.same.Goals as goal

pub returns-else-self-other-3-clause-determined : goal.returns-else-self-other-3-clause-determined
returns-else-self-other-3-clause-determined c = λ xs k t. same-unions c.args.self.now c.args.other.now xs k t.wide t.made_of t.unspent t.took
