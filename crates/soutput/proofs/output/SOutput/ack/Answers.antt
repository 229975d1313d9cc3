use Rattle.std.proofs.Common.{◌∙◌, length, ap, sym}
use Rattle.dpc_lists.proofs.Elements.{length-changed}
use Rattle.dpc_model.specs.Sessions.{after_ack}
use Rattle.output_buffer.specs.Buffers.{BufferState}
use Rattle.soutput.proofs.output.SOutput.ack.Goals as goal

pub invariant_of-self : goal.invariant_of-self
invariant_of-self c =
    c.self.invariant ∙ sym (ap (λ (b : BufferState). length b.acks) c.ack.ensures ∙ length-changed c.args.reader (after_ack c.args.inc c.args.count) c.self.inside.buffer.acks)
