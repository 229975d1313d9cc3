use Rattle.std.proofs.Common.{rules, ◌<◌, ◌∙◌, ◌++◌, ap, sym, map, length, List, append-nil}
use Rattle.dpc_model.specs.Fragments.{tag}
use Rattle.dpc_model.specs.declared.tuples.Tuple.{Tuple}
use Rattle.held_tuples.proofs.Joined.{order-at, between-start, between-next, between-end}
use Rattle.held_tuples.proofs.held.push_runs_between.Goals as goal

pub loop-place-init : goal.loop-place-init
loop-place-init c = λ o.
    ap (λ (ts : List Tuple). c.args.tagged.now.items ++ map (tag c.args.port) ts)
    (between-start c.args.from c.args.upto c.first_run-place.result c.args.runs.now.items (c.first_run-place.ensures o))

pub loop-place-preserved : goal.loop-place-preserved
loop-place-preserved c = λ o.
    let low : c.loop-place.place < length c.args.runs.now.items = search rules in
    let run = c.index-run.result.now in
    between-next c.args.port c.args.from c.args.upto c.loop-place.place c.args.runs.now.items run c.loop-place.tagged.items c.push_between.new.tagged.items _ low c.index-run.ensures
    (c.in_ok-push_between.ensures (order-at c.args.runs.now.items c.loop-place.place run low c.index-run.ensures o)) (c.loop-place.invariant o)

pub returns-then-begins_from : goal.returns-then-begins_from
returns-then-begins_from c = λ o.
    let low : c.loop-place.place < length c.args.runs.now.items = search rules in
    let none = between-end c.args.from c.args.upto c.loop-place.place c.args.runs.now.items c.index-run.result.now low c.index-run.ensures o (sym c.if-begins_from.ensures) in
    sym (append-nil c.loop-place.tagged.items) ∙ ap (λ (us : List Tuple). c.loop-place.tagged.items ++ map (tag c.args.port) us) (sym none) ∙ c.loop-place.invariant o
