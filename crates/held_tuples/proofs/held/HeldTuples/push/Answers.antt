use Rattle.std.proofs.Common.{ap, length, List, arith}
use Rattle.dpc_model.specs.declared.tuples.Tuple.{Tuple}
use Rattle.held_tuples.proofs.Parts.{length-stable}
use Rattle.held_tuples.proofs.held.HeldTuples.push.Goals as goal

pub overflow_add-self : goal.overflow_add-self
overflow_add-self c =
    let most = length-stable c.args.items.now in
    let counted = c.in-Ok.ensures.count in
    let long = c.self.invariant in
    let view = ap (λ (ts : List Tuple). length ts) c.self.view_is in
    let fits = c.requires in omega (arith, most, counted, long, view, fits)
