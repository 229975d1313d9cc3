use Rattle.std.proofs.Common.{◌∷◌, ◌∙◌, ◌+◌, [], drop, ap, sym}
use Rattle.dpc_model.specs.declared.tuples.Tuple.{Tuple}
use Rattle.ops_join.proofs.Giving.{drop-next}
use Rattle.ops_join.proofs.Givings.{gave-more, gave-first, on-err}
use Rattle.ops_join.proofs.rows_out.give_all.Goals as goal

pub returns-in_err-give-clause-first : goal.returns-in_err-give-clause-first
returns-in_err-give-clause-first g c =
    let rows = c.args.rows.now in
    let i = c.loop-row.row-index in
    let row = c.row-item.result in
    let next = drop-next rows i row c.loop-row-test.true ∙ ap (λ (t : Tuple). t ∷ drop (i + 1) rows) (sym c.row-item.is) in
    on-err _
    (gave-first (g.R.RowSink.took c.args.sink.now c.args.out.now) (g.R.RowSink.took c.give.new.self c.give.new.out) _ _
    (gave-more (g.R.RowSink.took c.args.sink.now c.args.out.now) (g.R.RowSink.took c.loop-row.sink c.loop-row.out) (g.R.RowSink.took c.give.new.self c.give.new.out) (row ∷ []) _ _ _ next c.loop-row.invariant c.give.ensures))

pub loop-row-preserved : goal.loop-row-preserved
loop-row-preserved g c =
    let rows = c.args.rows.now in
    let i = c.loop-row.row-index in
    let row = c.row-item.result in
    let next = drop-next rows i row c.loop-row-test.true ∙ ap (λ (t : Tuple). t ∷ drop (i + 1) rows) (sym c.row-item.is) in
    gave-more (g.R.RowSink.took c.args.sink.now c.args.out.now) (g.R.RowSink.took c.loop-row.sink c.loop-row.out) (g.R.RowSink.took c.give.new.self c.give.new.out) (row ∷ []) _ _ _ next c.loop-row.invariant c.give.ensures
