use Rattle.std.proofs.Common.{List, [], subst}
use Rattle.dpc_model.specs.declared.tuples.Tuple.{Tuple}
use Rattle.inlet.specs.Ordered.{IsUptoIf}
use Rattle.inlet.proofs.Upto.{nothing}
use Rattle.inlet.proofs.tentative.Tentative.replace.Goals as goal

pub invariant_of-self : goal.invariant_of-self
invariant_of-self c =
    subst (λ (ts : List Tuple). IsUptoIf ts c.last_behind-self-inside.result) c.as_slice.ensures.value (c.last_behind-self-inside.ensures [] nothing)
