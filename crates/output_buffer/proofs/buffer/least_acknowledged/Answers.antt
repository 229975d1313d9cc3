use Rattle.std.proofs.Common.{◌≡◌, ◌∙◌, ap, sym, min, length, arith, slice_index_or}
use Rattle.output_buffer.proofs.Leasts.{least_of, least-at, least-all}
use Rattle.output_buffer.proofs.buffer.least_acknowledged.Goals as goal

pub loop-ack-preserved : goal.loop-ack-preserved
loop-ack-preserved c = c.min-found.ensures ∙ ap (λ n. min n (slice_index_or c.args.acks.now c.loop-ack.ack-index (0, 0)).1) c.loop-ack.invariant ∙ sym (least-at c.loop-ack.ack-index c.args.acks.now c.loop-ack-test.true)

pub returns : goal.returns
returns c =
    let past = c.loop-ack-test.false in
    let within = c.loop-ack.auto.ack-index-end in
    let all : c.loop-ack.ack-index ≡ length c.args.acks.now = omega (arith, past, within) in
    c.loop-ack.invariant ∙ ap (λ i. least_of i c.args.acks.now) all ∙ least-all c.args.acks.now
