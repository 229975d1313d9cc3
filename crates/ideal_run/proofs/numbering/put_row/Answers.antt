use Rattle.std.proofs.Common.{◌++◌, ◌∷◌, ◌∙◌, [], ap, subst, List, ℕ}
use Rattle.dpc_model.specs.declared.tuples.Tuple.{Tuple}
use Rattle.ideal_run.specs.Buckets.{numbered, IsUnderWay, Stopped}
use Rattle.ideal_run.specs.declared.faults.WriteFault.TheVariants as fault
use Rattle.ideal_run.proofs.Ways.{way-none, stop-here, stop-at}
use Rattle.ideal_run.proofs.numbering.put_row.Goals as goal

pub returns-in_err-next-clause-err : goal.returns-in_err-next-clause-err
returns-in_err-next-clause-err g c =
    let lines = c.args.text.now.items ++ numbered c.args.number (c.args.row.now ∷ []) in
    stop-at _ fault.NoMemory _ _ _ c.from_residual.ensures (stop-here (g.K.Sink.edge c.args.out.now) (g.K.Sink.edge c.args.out.now) lines lines (way-none (g.K.Sink.edge c.args.out.now) lines))

pub returns-in_err-put_numbered-clause-err : goal.returns-in_err-put_numbered-clause-err
returns-in_err-put_numbered-clause-err g c =
    let lines = c.args.text.now.items ++ numbered c.args.number (c.args.row.now ∷ []) in
    stop-at _ fault.NoMemory _ _ _ c.from_residual-in_err-put_numbered.ensures (stop-here (g.K.Sink.edge c.args.out.now) (g.K.Sink.edge c.args.out.now) lines lines (way-none (g.K.Sink.edge c.args.out.now) lines))

pub returns-in_err-write_piece-clause-err : goal.returns-in_err-write_piece-clause-err
returns-in_err-write_piece-clause-err g c =
    stop-at _ fault.Failed _ _ _ c.from_residual-in_err-write_piece.ensures
    (subst (λ (xs : List ℕ). Stopped fault.Failed (g.K.Sink.edge c.args.out.now) (g.K.Sink.edge c.write_piece.new.out) xs) (c.in_ok-put_numbered.ensures.put ∙ ap (λ (ts : List Tuple). c.args.text.now.items ++ numbered c.args.number ts) c.from_ref.ensures.value) c.in_err-write_piece.ensures.failed)

pub returns-clause-way : goal.returns-clause-way
returns-clause-way g c =
    subst (λ (xs : List ℕ). IsUnderWay (g.K.Sink.edge c.args.out.now) (g.K.Sink.edge c.write_piece.new.out) xs c.write_piece.new.text.items) (c.in_ok-put_numbered.ensures.put ∙ ap (λ (ts : List Tuple). c.args.text.now.items ++ numbered c.args.number ts) c.from_ref.ensures.value) c.in_ok-write_piece.ensures.took
