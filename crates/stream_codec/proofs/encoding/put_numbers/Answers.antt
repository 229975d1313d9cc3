use Rattle.std.proofs.Common.{◌++◌, ℕ, List, append-nil, sym, ap, ◌∙◌, arith}
use Rattle.stream_codec.proofs.Bytes.{number_bytes-end}
use Rattle.stream_codec.proofs.encoding.put_numbers.Goals as goal

pub returns : goal.returns
returns c =
    sym (append-nil c.loop-i.bytes.items)
    ∙ ap (λ (bs : List ℕ). c.loop-i.bytes.items ++ bs) (sym (number_bytes-end c.args.fields.now c.args.numbers.now c.loop-i.i (omega arith)))
    ∙ c.loop-i.invariant
