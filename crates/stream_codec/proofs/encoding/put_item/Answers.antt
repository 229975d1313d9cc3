use Rattle.std.proofs.Common.{◌≡◌, ℤ, List, [], ◌∷◌, ◌++◌, OnOk, sym, subst}
use Rattle.dpc_model.specs.declared.tuples.Item.{Item}
use Rattle.stream_codec.specs.Frames.{frame_bytes, bytes_of_parts}
use Rattle.stream_codec.specs.declared.frames.Frame.TheVariants as frame
use Rattle.stream_codec.specs.declared.kinds.Kind.TheVariants as kind
use Rattle.stream_codec.proofs.encoding.put_item.Goals as goal

pub returns-in-Stable : goal.returns-in-Stable
unfolding frame_bytes
returns-in-Stable c =
    subst (λ (x : Item). OnOk c.put_parts.result (c.put_parts.new.bytes.items ≡ c.args.bytes.now.items ++ frame_bytes (frame.Item x))) (sym c.in-Stable.is)
    (subst (λ (vs : List ℤ). OnOk c.put_parts.result (c.put_parts.new.bytes.items ≡ c.args.bytes.now.items ++ bytes_of_parts kind.Stable (c.in-Stable.number ∷ c.in-Stable.tuple.stime ∷ []) vs))
    c.as_slice-values.ensures c.put_parts.ensures)
