use Rattle.std.proofs.Common.{rules, ◌<◌, ◌≤◌, length, arith}
use Rattle.held_tuples.proofs.Joined.{counts-first, counts-next, counts-in, counts-end, counts-all}
use Rattle.held_tuples.proofs.held.count_runs_below.Goals as goal

pub loop-place-init : goal.loop-place-init
loop-place-init c = counts-first c.args.time c.args.runs.now.items

pub overflow_add-count : goal.overflow_add-count
overflow_add-count c =
    let low : c.loop-place.place < length c.args.runs.now.items = search rules in
    let most = counts-in c.args.time c.loop-place.place c.loop-place.count c.first_from-below.result c.args.runs.now.items c.index-run.result.now low c.index-run.ensures
    c.first_from-below.ensures.within c.loop-place.invariant in
    let fits = c.requires in omega (arith, most, fits)

pub loop-place-preserved : goal.loop-place-preserved
loop-place-preserved c =
    let low : c.loop-place.place < length c.args.runs.now.items = search rules in
    counts-next c.args.time c.loop-place.place c.loop-place.count c.first_from-below.result c.args.runs.now.items c.index-run.result.now low c.index-run.ensures
    c.first_from-below.ensures.within c.first_from-below.ensures.place c.loop-place.invariant

pub returns-then-below-len-clause-within : goal.returns-then-below-len-clause-within
returns-then-below-len-clause-within c =
    let low : c.loop-place.place < length c.args.runs.now.items = search rules in
    counts-in c.args.time c.loop-place.place c.loop-place.count c.first_from-below.result c.args.runs.now.items c.index-run.result.now low c.index-run.ensures
    c.first_from-below.ensures.within c.loop-place.invariant

pub returns-then-below-len-clause-count : goal.returns-then-below-len-clause-count
returns-then-below-len-clause-count c = λ o.
    let low : c.loop-place.place < length c.args.runs.now.items = search rules in
    let test = c.if-below-len.true in
    let long = c.len-in-loop-place.ensures in
    let some : c.first_from-below.result < length c.index-run.result.now = omega (arith, test, long) in
    counts-end c.args.time c.loop-place.place c.loop-place.count c.first_from-below.result c.args.runs.now.items c.index-run.result.now low c.index-run.ensures
    c.first_from-below.ensures.place some c.loop-place.invariant o

pub returns-after-loop-place-clause-within : goal.returns-after-loop-place-clause-within
returns-after-loop-place-clause-within c = let within = c.loop-place.invariant.within in omega (arith, within)

pub returns-after-loop-place-clause-count : goal.returns-after-loop-place-clause-count
returns-after-loop-place-clause-count c = λ o.
    let past : length c.args.runs.now.items ≤ c.loop-place.place = search rules in
    counts-all c.args.time c.loop-place.place c.loop-place.count c.args.runs.now.items past c.loop-place.invariant o
