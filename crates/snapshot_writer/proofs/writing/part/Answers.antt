use Rattle.std.proofs.Common.{ℕ, List, take, ap, ◌∙◌}
use Rattle.dpc_model.specs.declared.tuples.Tuple.{Tuple}
use Rattle.snapshot_form.specs.Pieces.{piece_size}
use Rattle.snapshot_writer.proofs.Places.{first-of}
use Rattle.snapshot_writer.proofs.writing.part.Goals as goal

pub returns : goal.returns
returns c =
    let rest = c.split_at.result.1.now in
    c.split_at-2.ensures.front
    ∙ ap (λ (m : ℕ). take m rest) c.min.ensures
    ∙ first-of piece_size rest
    ∙ ap (λ (ts : List Tuple). take piece_size ts) c.split_at.ensures.back
