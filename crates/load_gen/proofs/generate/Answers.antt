use Rattle.std.proofs.Common.{refl, ◌∙◌, sym}
use Rattle.load_gen.specs.Generated.{generated}
use Rattle.load_gen.proofs.Drawing.{seeded}
use Rattle.load_gen.proofs.generate.Goals as goal

pub returns : goal.returns
unfolding generated
returns c =
    let seed = c.args.seed in
    let begin = c.new-generator.ensures ∙ sym (seeded seed) in
    let draws = c.as_slice.ensures.value ∙ c.in_ok-draws.ensures.draws seed (c.in_ok-plan.ensures.state seed begin) in
    rw (c.in_ok-plan.ensures.plan seed begin, c.in_ok-phases.ensures seed draws) refl
