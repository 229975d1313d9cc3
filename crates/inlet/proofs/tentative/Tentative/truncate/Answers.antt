use Rattle.std.proofs.Common.{List, sym, subst}
use Rattle.dpc_model.specs.declared.tuples.Tuple.{Tuple}
use Rattle.inlet.specs.Ordered.{IsUptoIf}
use Rattle.inlet.proofs.Upto.{fewer}
use Rattle.inlet.proofs.tentative.Tentative.truncate.Goals as goal

pub invariant_of-self : goal.invariant_of-self
invariant_of-self c =
    subst (λ (ts : List Tuple). IsUptoIf ts c.self.inside.last) (sym c.truncate.ensures.items) (fewer c.args.count c.self.inside.tuples.items c.self.inside.last c.self.invariant)
