use Rattle.std.proofs.Common.{◌≡◌, ◌+◌, ◌<◌, ◌≤◌, ◌∙◌, List, length, drop, ap, sym, arith}
use Rattle.dpc_model.specs.declared.tuples.Item.{Item}
use Rattle.held_tuples.specs.Runs.{run_length}
use Rattle.held_tuples.proofs.Parts.{begun, passed-over, one-more, count-fits}
use Rattle.held_tuples.proofs.held.push_runs.Goals as goal

pub loop-place-init : goal.loop-place-init
loop-place-init c = begun c.args.items.now c.args.runs.now.items

pub loop-place-preserved-then-len-eq0 : goal.loop-place-preserved-then-len-eq0
loop-place-preserved-then-len-eq0 c =
    let test = c.loop-place-test.true in
    let long = c.len.ensures in
    let low : c.loop-place.place < length c.args.items.now = omega (arith, test, long) in
    let none : run_length (drop c.loop-place.place c.args.items.now) ≡ 0 =
    sym (c.run_length-len.ensures.is ∙ ap (λ (is : List Item). run_length (drop c.loop-place.place is)) c.as_slice.ensures) ∙ c.if-len-eq0.true in
    passed-over c.args.items.now c.loop-place.place c.loop-place.count c.args.runs.now.items c.loop-place.runs.items low none c.loop-place.invariant

pub overflow_add-count : goal.overflow_add-count
overflow_add-count c =
    let run : c.run_length-len.result ≡ run_length (drop c.loop-place.place c.args.items.now) =
    c.run_length-len.ensures.is ∙ ap (λ (is : List Item). run_length (drop c.loop-place.place is)) c.as_slice.ensures in
    let most = count-fits c.args.items.now c.loop-place.place c.loop-place.count c.run_length-len.result c.args.runs.now.items c.loop-place.runs.items run c.loop-place.invariant in
    let long = c.len.ensures in
    let fits = c.len.type_inv in omega (arith, most, long, fits)

pub loop-place-preserved : goal.loop-place-preserved
loop-place-preserved c =
    let run : c.run_length-len.result ≡ run_length (drop c.loop-place.place c.args.items.now) =
    c.run_length-len.ensures.is ∙ ap (λ (is : List Item). run_length (drop c.loop-place.place is)) c.as_slice.ensures in
    let same = ap (λ (is : List Item). length is) c.as_slice.ensures in
    let within = c.run_length-len.ensures.within in
    let inside : c.loop-place.place + c.run_length-len.result ≤ length c.args.items.now = omega (arith, same, within) in
    one-more c.args.items.now c.loop-place.place c.loop-place.count c.run_length-len.result c.args.runs.now.items c.loop-place.runs.items c.push_back.new.self.items c.in_ok-new.field-0 inside run
    c.in_ok-new.ensures c.in_ok-push_back.ensures.items c.loop-place.invariant
