use Rattle.std.proofs.Common.{ℕ, List, length, ap, ◌∙◌, arith}
use Rattle.dpc_model.specs.declared.tuples.Tuple.{Tuple}
use Rattle.node_model.specs.Stands.{SnapValue}
use Rattle.fragment_mill.specs.Mills.{MillState}
use Rattle.fragment_mill.specs.States.{parts_of}
use Rattle.snapshot_form.specs.Bytes.{tuples_bytes, parts_bytes}
use Rattle.snapshot_writer.proofs.Sizes.{length-snapshot}
use Rattle.snapshot_writer.specs.Counts.{capped}
use Rattle.snapshot_writer.proofs.counting.count_snapshot.Goals as goal

pub returns : goal.returns
returns c =
    let s = c.args.snapshot.now in
    let whole = length-snapshot s in
    let counts = ap (λ (ns : List ℕ). length ns) c.as_slice.ensures ∙ ap (λ (t : SnapValue MillState). length t.counts) c.snapshot.view_is in
    let tuples = c.count_tuples.ensures ∙ ap (λ (ts : List Tuple). capped (length (tuples_bytes ts))) c.kept.ensures in
    let parts = c.count_parts.ensures ∙ ap (λ (m : MillState). capped (length (parts_bytes (parts_of m).operators))) c.mill.ensures in
    omega (arith, whole, counts, tuples, parts)
