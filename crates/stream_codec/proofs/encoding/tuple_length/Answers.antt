use Rattle.std.proofs.Common.{◌≡◌, ℕ, ◌+◌, ◌*◌, ℤ, List, [], ◌∷◌, ◌++◌, length, refl, sym, ap, ◌∙◌, length-append, arith}
use Rattle.byteorder.specs.Endian.{big_bytes}
use Rattle.byteorder.specs.Numbers.{length-bytes_high_first}
use Rattle.stream_codec.specs.Frames.{tuple_bytes, frame_bytes, body_of, bytes_of_parts}
use Rattle.stream_codec.specs.declared.kinds.Kind.TheVariants as kind
use Rattle.stream_codec.proofs.Bytes.{length-body}
use Rattle.stream_codec.proofs.encoding.tuple_length.Goals as goal

pub returns : goal.returns
unfolding frame_bytes
returns c =
    let t = c.args.tuple.now in
    let ns : List ℕ = t.stime ∷ [] in
    let body = length-body kind.Tentative ns t.vals refl in
    let head = length-bytes_high_first 4 (length (body_of kind.Tentative ns t.vals)) in
    let joined = length-append (big_bytes 4 (length (body_of kind.Tentative ns t.vals))) (body_of kind.Tentative ns t.vals) in
    let few = ap (λ (vs : List ℤ). 8 * length vs) c.as_slice.ensures in
    omega (arith, c.body_length.ensures)
