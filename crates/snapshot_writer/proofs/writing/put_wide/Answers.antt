use Rattle.std.proofs.Common.{ℕ, List, ◌++◌, ap, ◌∙◌}
use Rattle.snapshot_writer.proofs.writing.put_wide.Goals as goal

pub returns : goal.returns
returns c = c.in_ok-extend_from_slice.ensures.items ∙ ap (λ (bs : List ℕ). c.args.buf.now.items ++ bs) c.to_be_bytes.ensures
