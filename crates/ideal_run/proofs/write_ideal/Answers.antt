use Rattle.std.proofs.Common.{◌≡◌, ◌∙◌, ap, subst, take, List, ℕ}
use Rattle.std.proofs.lemmas.List.{take_all}
use Rattle.dpc_edge.specs.Edges.{Took}
use Rattle.ideal_run.specs.declared.faults.WriteFault.TheVariants as fault
use Rattle.ideal_run.proofs.Texts.{clients_text, clients-all}
use Rattle.ideal_run.proofs.Ways.{way-whole, stop-at}
use Rattle.ideal_run.proofs.Clients.{client-next, client-stop, last-stop}
use Rattle.ideal_run.proofs.write_ideal.Goals as goal

pub returns-in_err-write_stream-clause-err : goal.returns-in_err-write_stream-clause-err
returns-in_err-write_stream-clause-err g c =
    let at = rw c.as_slice-client-items.ensures at c.client-item.is in
    let low = rw c.as_slice-client-items.ensures at c.loop-client-test.true in
    stop-at _ c.in_err-write_stream.field-0.0 _ _ _ c.from_residual.ensures
    (client-stop c.args.plan.now c.loop-client.client-index c.client-item.result c.in_err-write_stream.field-0.0 (g.K.Sink.edge c.args.out.now) (g.K.Sink.edge c.loop-client.out) (g.K.Sink.edge c.write_stream.new.out)
    c.loop-client.lines.text.items low at c.loop-client.invariant c.in_err-write_stream.ensures.err)

pub loop-client-preserved : goal.loop-client-preserved
loop-client-preserved g c =
    let at = rw c.as_slice-client-items.ensures at c.client-item.is in
    let low = rw c.as_slice-client-items.ensures at c.loop-client-test.true in
    client-next c.args.plan.now c.loop-client.client-index c.client-item.result (g.K.Sink.edge c.args.out.now) (g.K.Sink.edge c.loop-client.out) (g.K.Sink.edge c.write_stream.new.out)
    c.loop-client.lines.text.items c.write_stream.new.lines.text.items low at c.loop-client.invariant c.in_ok-write_stream.ensures.ok

pub returns-in_err-write_held-clause-err : goal.returns-in_err-write_held-clause-err
returns-in_err-write_held-clause-err g c =
    stop-at _ fault.Failed _ _ _ c.from_residual-in_err-write_held.ensures
    (last-stop c.args.plan.now c.loop-client.client-index fault.Failed (g.K.Sink.edge c.args.out.now) (g.K.Sink.edge c.loop-client.out) (g.K.Sink.edge c.write_held.new.out)
    c.loop-client.lines.text.items c.loop-client.invariant c.in_err-write_held.ensures.failed)

pub returns-clause-took : goal.returns-clause-took
returns-clause-took g c =
    let plan = c.args.plan.now in
    let past = rw c.as_slice-client-items.ensures at c.loop-client-test.false in
    let whole : take c.loop-client.client-index plan.clients ≡ plan.clients = take_all c.loop-client.client-index plan.clients past in
    subst (λ (xs : List ℕ). Took (g.K.Sink.edge c.args.out.now) (g.K.Sink.edge c.write_held.new.out) xs) (ap (clients_text plan) whole ∙ clients-all plan)
    (way-whole (g.K.Sink.edge c.args.out.now) (g.K.Sink.edge c.loop-client.out) (g.K.Sink.edge c.write_held.new.out) (clients_text plan (take c.loop-client.client-index plan.clients))
    c.loop-client.lines.text.items c.loop-client.invariant c.in_ok-write_held.ensures.took)
