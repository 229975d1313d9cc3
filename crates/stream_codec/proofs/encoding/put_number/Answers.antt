use Rattle.std.proofs.Common.{ℕ, ◌-◌, List, ◌++◌, take, drop, ap, ◌∙◌}
use Rattle.stream_codec.proofs.Bytes.{lowest}
use Rattle.stream_codec.proofs.encoding.put_number.Goals as goal

pub returns : goal.returns
returns c =
    c.in_ok-extend_from_slice.ensures.items
    ∙ ap (λ (bs : List ℕ). c.args.bytes.now.items ++ take (8 - (8 - c.args.width)) (drop (8 - c.args.width) bs)) c.write_u64.ensures
    ∙ ap (λ (bs : List ℕ). c.args.bytes.now.items ++ bs) (lowest c.args.width c.args.number c.requires)
