use Rattle.std.proofs.Common.{◌∙◌, ◌<◌, ap, sym, subst, List, length}
use Rattle.dpc_lists.specs.Lists.{changed}
use Rattle.dpc_model.specs.Sessions.{Acked, after_ack}
use Rattle.output_buffer.specs.Buffers.{BufferState, cut_to_base}
use Rattle.dpc_lists.proofs.Elements.{set-changed}
use Rattle.output_buffer.proofs.buffer.OutputBuffer.ack.Goals as goal

pub returns : goal.returns
returns c =
    let low = subst (λ (b : BufferState). c.args.reader < length b.acks) (sym c.self.view_is) c.requires in
    let set = set-changed c.self.inside.acks.items c.args.reader (λ a. after_ack c.args.inc c.args.count a) c.index.result.now c.acknowledged.result low c.index.ensures c.acknowledged.ensures in
    c.cut.ensures ∙ ap (λ (acks : List Acked). cut_to_base (record { base = c.self.inside.base; kept = c.self.inside.kept.items; acks = acks })) set
    ∙ ap (λ (b : BufferState). cut_to_base (record b { acks = changed c.args.reader (after_ack c.args.inc c.args.count) b.acks })) c.self.view_is
