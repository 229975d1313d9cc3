use Rattle.std.proofs.Common.{rules, ◌<◌, ◌≤◌, ◌∙◌, length, arith}
use Rattle.held_tuples.proofs.Dropping.{left-first, first-gone, first-counted}
use Rattle.held_tuples.proofs.held.drop_first_below.Goals as goal

pub returns-then-below-len-clause-from : goal.returns-then-below-len-clause-from
returns-then-below-len-clause-from c =
    let long = c.len.ensures in
    let test = c.if-below-len.true in
    let low : c.first_below-below.result < length c.in-Some.run'.now = omega (arith, long, test) in
    left-first c.args.time c.first_below-below.result c.loop-run.runs.items c.in-Some.run'.now c.index_mut.result.now c.skip.new.self c.in-Some.ensures.lookup c.index_mut.ensures.value c.skip.ensures
    c.first_below-below.ensures.rest low ∙ c.loop-run.invariant.0

pub loop-run-preserved : goal.loop-run-preserved
loop-run-preserved c =
    let long = c.len.ensures in
    let test = c.if-below-len.false in
    let past : length c.in-Some.run'.now ≤ c.first_below-below.result = omega (arith, long, test) in
    let within = c.first_below-below.ensures.within in
    let some : 0 < length c.loop-run.runs.items = search rules in
    let counted = first-counted c.loop-run.runs.items c.pop_front.new.self.items c.in-Some.run'.now some c.in-Some.ensures.lookup c.pop_front.ensures.rest in
    let so_far = c.loop-run.invariant.1 in (
      first-gone c.args.time c.first_below-below.result c.loop-run.runs.items c.pop_front.new.self.items c.in-Some.run'.now c.in-Some.ensures.lookup c.pop_front.ensures.rest
          c.first_below-below.ensures.rest past ∙ c.loop-run.invariant.0,
      omega (arith, counted, so_far, past, within),
    )
