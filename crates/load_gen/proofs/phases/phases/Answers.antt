use Rattle.std.proofs.Common.{◌≡◌, arith, ap, sym, ◌∙◌}
use Rattle.load_gen.specs.Generated.{phases_of, phases}
use Rattle.load_gen.proofs.Drawing.{phases-is, phases-more}
use Rattle.load_gen.proofs.phases.phases.Goals as goal

pub loop-p-preserved : goal.loop-p-preserved
loop-p-preserved c seed e =
    rw (c.in_ok-push.ensures.items, c.loop-p.invariant seed e, c.in_ok-phase.ensures seed e) (sym (phases-more seed c.loop-p.p))

pub returns : goal.returns
returns c seed e =
    let most = c.loop-p.auto.p-end in
    let done = c.loop-p-test.false in
    let is = phases-is in
    let all : c.loop-p.p ≡ phases = omega (arith, most, done, is) in
    c.from_vec.ensures ∙ c.loop-p.invariant seed e ∙ ap (phases_of seed) all
