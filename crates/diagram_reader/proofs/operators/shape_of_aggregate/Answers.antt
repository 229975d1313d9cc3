use Rattle.std.proofs.Common.{◌+◌, refl, sym, ap, ◌∙◌}
use Rattle.std.specs.Prelude.{is_some, if◌then◌else◌}
use Rattle.diagram_reader.proofs.OperatorLines.{aggregate_reads}
use Rattle.diagram_reader.proofs.operators.shape_of_aggregate.Goals as goal

pub returns : goal.returns
returns c = (
  refl,
  refl,
  rw c.max-reads.ensures (aggregate_reads c.args.size c.args.step c.args.group c.args.aggs.now _ _ c.columns_of_group.ensures (rw c.as_slice.ensures at c.columns_of_aggs.ensures)),
  sym (c.columns_of_result-columns.ensures ∙ ap (λ n. (if is_some c.args.group then 1 else 0) + n) c.len.ensures),
)
