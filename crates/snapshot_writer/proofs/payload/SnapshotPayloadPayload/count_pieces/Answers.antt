use Rattle.std.proofs.Common.{◌≡◌, ◌<◌, ◌^◌, ◌+◌, ℕ, length, ap, ◌∙◌, arith}
use Rattle.node_model.specs.Stands.{SnapValue}
use Rattle.fragment_mill.specs.Mills.{MillState}
use Rattle.fragment_mill.specs.States.{parts_of}
use Rattle.snapshot_form.specs.Bytes.{snapshot_bytes}
use Rattle.snapshot_form.specs.Pieces.{pieces_of, parts_before_last}
use Rattle.snapshot_writer.proofs.Places.{length-pieces, count-short}
use Rattle.snapshot_writer.proofs.payload.SnapshotPayloadPayload.count_pieces.Goals as goal

pub overflow_add-result-2 : goal.overflow_add-result-2
overflow_add-result-2 c =
    let s = c.self.inside.snapshot.now in
    let count = c.self.invariant.0 in
    let below = c.self.invariant.1 in
    let short : length (snapshot_bytes s) < 2 ^ 63 = omega (arith, count, below) in
    let few = count-short s short in
    let many = c.operator_count.ensures ∙ ap (λ (m : MillState). length (parts_of m).operators) c.mill.ensures in
    let kept = c.count_kept_pieces-kept.ensures in
    omega (arith, few, many, kept)

pub returns : goal.returns
returns c =
    let s = c.self.inside.snapshot.now in
    let many = c.operator_count.ensures ∙ ap (λ (m : MillState). length (parts_of m).operators) c.mill.ensures in
    let kept = c.count_kept_pieces-kept.ensures ∙ ap (λ (n : ℕ). parts_before_last n + 1) c.kept_count.ensures in
    let all = length-pieces s in
    let here : 1 + c.count_kept_pieces-kept.result + c.operator_count.result ≡ length (pieces_of s) = omega (arith, many, kept, all) in
    here ∙ ap (λ (t : SnapValue MillState). length (pieces_of t)) c.self.view_is
