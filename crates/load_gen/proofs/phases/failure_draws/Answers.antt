use Rattle.std.proofs.Common.{◌+◌, ◌*◌, [], ◌∷◌, arith, ap, sym, ◌∙◌, ◌≡◌, length}
use Rattle.std.proofs.lemmas.List.{length-append}
use Rattle.load_gen.specs.Generated.{entries, failures, failure_draws, state_after}
use Rattle.load_gen.proofs.Drawing.{failures-is, draws-more, one-more}
use Rattle.load_gen.proofs.phases.failure_draws.Goals as goal

pub loop-preserved : goal.loop-preserved
loop-preserved c =
    let i = c.loop.counter in
    let items = c.in_ok-push.ensures.items in
    let long = ap length items in
    let parts = length-append c.loop.draws.items (c.draw.result ∷ []) in
    let many = c.loop.invariant.0 in
    let same : 4 * entries + i + 1 ≡ 4 * entries + (i + 1) = omega arith in (
      omega (arith, long, parts, many),
      λ seed e.
          let before = c.loop.invariant.1 seed e in
          let after = one-more seed (4 * entries + i) c.loop.generator.state before.0 ∙ ap (state_after seed) same in (
            c.draw.ensures.state ∙ after,
            rw (items, before.1, c.draw.ensures.drawn, after) (sym (draws-more seed i)),
          ),
    )

pub returns-clause-count : goal.returns-clause-count
returns-clause-count c =
    let most = c.loop.auto.counter-end in
    let done = c.loop-test.false in
    let many = c.loop.invariant.0 in
    let is = failures-is in
    omega (arith, most, done, many, is)

pub returns-clause-draws : goal.returns-clause-draws
returns-clause-draws c seed e =
    let most = c.loop.auto.counter-end in
    let done = c.loop-test.false in
    let is = failures-is in
    let all : c.loop.counter ≡ failures = omega (arith, most, done, is) in
    (c.loop.invariant.1 seed e).1 ∙ ap (failure_draws seed) all
