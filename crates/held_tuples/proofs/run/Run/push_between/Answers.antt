use Rattle.std.proofs.Common.{ℕ, List, ◌≡◌, ◌<◌, ◌∙◌, ◌++◌, [], length, map, drop, sym, ap, append-nil, arith}
use Rattle.dpc_model.specs.Fragments.{tag}
use Rattle.dpc_model.specs.Streams.{cut, count_below}
use Rattle.dpc_model.specs.declared.tuples.Tuple.{Tuple}
use Rattle.dpc_model.specs.declared.tuples.Tagged.{Tagged}
use Rattle.held_tuples.proofs.Searching.{between-from, none-left, cut-next}
use Rattle.held_tuples.proofs.run.Run.push_between.Goals as goal

pub loop-place-init : goal.loop-place-init
loop-place-init c = λ o.
    let ts = c.args.self.now in
    let there : c.first_from-place.result ≡ count_below ts c.args.from = c.first_from-place.ensures.place o ∙ ap (λ (n : ℕ). count_below ts n) c.from.ensures in
    ap (λ (xs : List Tagged). xs ++ map (tag c.args.port) (cut (drop c.first_from-place.result ts) c.args.upto)) c.in_ok-reserve.ensures.items
    ∙ ap (λ (us : List Tuple). c.args.tagged.now.items ++ map (tag c.args.port) us) (between-from c.args.from c.args.upto ts c.first_from-place.result o there)

pub loop-place-preserved : goal.loop-place-preserved
loop-place-preserved c = λ o.
    let ts = c.args.self.now in
    let t = c.in_ok-tuple.tuple in
    let test = c.loop-place-test.true in
    let long = c.len.ensures in
    let inside : c.loop-place.place < length ts = omega (arith, test, long) in
    let same : t ≡ c.tuple-tuple.result.now = c.in_ok-tuple.ensures in
    let below = c.if-tuple-upto.false in
    let time = ap (λ (u : Tuple). u.stime) same in
    let low : t.stime < c.args.upto = omega (arith, below, time) in
    cut-next c.args.port c.args.upto c.loop-place.place ts t c.loop-place.tagged.items c.push.new.self.items _ inside (same ∙ c.tuple-tuple.ensures t) low c.in_ok-push.ensures.items
    (c.loop-place.invariant o)

pub returns-then-tuple-upto : goal.returns-then-tuple-upto
returns-then-tuple-upto c = λ o.
    let ts = c.args.self.now in
    let place = c.loop-place.place in
    let test = c.loop-place-test.true in
    let long = c.len.ensures in
    let low : place < length ts = omega (arith, test, long) in
    let none : cut (drop place ts) c.args.upto ≡ [] = none-left ts place c.args.upto c.tuple-tuple.result.now o low (c.tuple-tuple.ensures c.tuple-tuple.result.now) c.if-tuple-upto.true in
    sym (append-nil c.loop-place.tagged.items) ∙ ap (λ (us : List Tuple). c.loop-place.tagged.items ++ map (tag c.args.port) us) (sym none) ∙ c.loop-place.invariant o
