use Rattle.std.proofs.Common.{◌≡◌, ℕ, List, ◌++◌, length, ap, subst, ◌∙◌}
use Rattle.std.specs.Prelude.{flat_map}
use Rattle.byteorder.specs.Endian.{big_bytes}
use Rattle.node_model.specs.Stands.{SnapValue}
use Rattle.fragment_mill.specs.Mills.{MillState}
use Rattle.snapshot_form.specs.Bytes.{head_bytes}
use Rattle.snapshot_writer.proofs.Appended.{five-writes}
use Rattle.snapshot_writer.proofs.writing.put_head.Goals as goal

pub returns : goal.returns
returns c =
    let s = c.snapshot.inside in
    let old = c.args.buf.now.items in
    let kept = length c.args.snapshot.now.kept in
    subst (λ (t : SnapValue MillState). c.put_count-2.new.buf.items ≡ (old ++ head_bytes t) ++ big_bytes 4 kept) c.snapshot.view_is
    (five-writes old (big_bytes 8 s.cursor) (big_bytes 4 (length s.counts)) (flat_map (big_bytes 8) s.counts) (big_bytes 8 s.base) (big_bytes 4 kept) _ _ _ _ _
    c.in_ok-put_number.ensures
    (c.in_ok-put_count.ensures ∙ ap (λ (ns : List ℕ). c.put_number.new.buf.items ++ big_bytes 4 (length ns)) c.as_slice-counts.ensures)
    (c.in_ok-put_numbers.ensures ∙ ap (λ (ns : List ℕ). c.put_count.new.buf.items ++ flat_map (big_bytes 8) ns) c.as_slice-counts.ensures)
    c.in_ok-put_number-2.ensures
    (c.in_ok-put_count-2.ensures ∙ ap (λ (n : ℕ). c.put_number-2.new.buf.items ++ big_bytes 4 n) c.kept_count.ensures))
