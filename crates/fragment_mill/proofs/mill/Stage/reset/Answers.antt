use Rattle.std.proofs.Common.{refl}
use Rattle.fragment_mill.proofs.Operators.{IsFit-stays}
use Rattle.fragment_mill.proofs.mill.Stage.reset.Goals as goal

pub returns-clause-fits : goal.returns-clause-fits
returns-clause-fits c = λ w f. IsFit-stays w c.args.self.now _ refl c.reset.ensures.operators c.reset.ensures.width f
