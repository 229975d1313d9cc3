use Rattle.std.proofs.Common.{◌∙◌, ◌≡◌, ◌≤◌, ap, drop, length, List, arith}
use Rattle.dpc_model.specs.declared.tuples.Tuple.{Tuple}
use Rattle.held_tuples.proofs.Parts.{long-run, run-behind, tuples-behind}
use Rattle.held_tuples.proofs.run.Run.skip.Goals as goal

pub overflow_add-self : goal.overflow_add-self
overflow_add-self c =
    let long : c.self.inside.len ≡ length c.args.self.now = long-run c.self.inside.len c.self.inside.from c.self.inside.items c.args.self.now c.self.invariant.2 c.self.view_is in
    let low = c.requires in
    let fits = c.self.invariant.0 in omega (arith, long, low, fits)

pub overflow_sub-self : goal.overflow_sub-self
overflow_sub-self c =
    let long : c.self.inside.len ≡ length c.args.self.now = long-run c.self.inside.len c.self.inside.from c.self.inside.items c.args.self.now c.self.invariant.2 c.self.view_is in
    let low = c.requires in omega (arith, long, low)

pub invariant_of-self : goal.invariant_of-self
invariant_of-self c =
    let long : c.self.inside.len ≡ length c.args.self.now = long-run c.self.inside.len c.self.inside.from c.self.inside.items c.args.self.now c.self.invariant.2 c.self.view_is in
    let few = c.requires in
    let low : c.args.count ≤ c.self.inside.len = omega (arith, long, few) in
    let fits = c.self.invariant.0 in
    let inside = c.self.invariant.1 in
    (omega (arith, low, fits), omega (arith, low, inside), run-behind c.args.count c.self.inside.len c.self.inside.from c.self.inside.items low c.self.invariant.2)

pub returns : goal.returns
returns c =
    let long : c.self.inside.len ≡ length c.args.self.now = long-run c.self.inside.len c.self.inside.from c.self.inside.items c.args.self.now c.self.invariant.2 c.self.view_is in
    let few = c.requires in
    let low : c.args.count ≤ c.self.inside.len = omega (arith, long, few) in
    tuples-behind c.args.count c.self.inside.len c.self.inside.from c.self.inside.items low c.self.invariant.2 ∙ ap (λ (ts : List Tuple). drop c.args.count ts) c.self.view_is
