use Rattle.std.proofs.Common.{subst}
use Rattle.fragment_mill.specs.Mills.{MillState}
use Rattle.fragment_mill.specs.Milling.{IsReady}
use Rattle.fragment_mill.proofs.Determined.{mills-determined}
use Rattle.fragment_mill.proofs.mill.FragMillEngine.same.Goals as goal

pub returns-else-self-other-2-clause-determined : goal.returns-else-self-other-2-clause-determined
returns-else-self-other-2-clause-determined c = λ xs k t.
    let mill = subst (λ (m : MillState). IsReady m) c.self.view_is c.self.invariant in
    let mill' = subst (λ (m : MillState). IsReady m) c.other.view_is c.other.invariant in
    mills-determined c.args.self.now c.args.other.now xs k mill mill' t.wide t.made_of t.unspent t.took
