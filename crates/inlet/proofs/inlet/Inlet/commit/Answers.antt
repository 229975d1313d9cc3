use Rattle.std.proofs.Common.{◌∙◌, ap, length, List, arith, length-append}
use Rattle.dpc_model.specs.PartStands.{InletValue}
use Rattle.dpc_model.specs.declared.tuples.Tuple.{Tuple}
use Rattle.held_tuples.specs.Runs.{stable_in}
use Rattle.held_tuples.proofs.Parts.{length-stable}
use Rattle.inlet.proofs.inlet.Inlet.commit.Goals as goal

pub overflow_add-self : goal.overflow_add-self
overflow_add-self c =
    let kept = ap (λ (ts : List Tuple). length ts) c.in_ok-hold.ensures.kept ∙ length-append c.self.inside.kept (stable_in c.args.taken.now) in
    let most = length-stable c.args.taken.now in
    let after = c.len.ensures in
    let before = c.len-before.ensures in
    let count = ap (λ (v : InletValue). v.count) c.self.view_is in
    let fits = c.requires.count in omega (arith, kept, most, after, before, count, fits)
