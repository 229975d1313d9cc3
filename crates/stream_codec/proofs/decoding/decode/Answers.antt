use Rattle.std.proofs.Common.{ℕ, Result, sym, subst, ◌∙◌}
use Rattle.stream_codec.specs.Frames.{IsDecoding}
use Rattle.stream_codec.specs.declared.faults.DecodeFault.{DecodeFault}
use Rattle.stream_codec.specs.declared.frames.Frame.{Frame}
use Rattle.stream_codec.proofs.Parts.{front}
use Rattle.stream_codec.proofs.decoding.decode.Goals as goal

pub returns : goal.returns
returns c =
    let same = front c.args.input.now c.behind-rest.result.now c.behind.result.now c.in-Some.kind c.read_u32-size.result
    (sym c.is_empty.ensures ∙ c.if-is_empty.false) (sym c.of.ensures ∙ c.in-Some.is)
    c.behind-rest.ensures c.if-rest-lt4.false c.read_u32-size.ensures c.behind.ensures in
    subst (λ (told : Result (Frame × ℕ) DecodeFault). IsDecoding told c.decode_rest.result) (sym same) c.decode_rest.ensures
