use Rattle.law_buckets.proofs.Ordered.{processed-in-order}
use Rattle.law_buckets.proofs.laws.processed_inputs_are_in_order.Goals as goal

pub returns : goal.returns
returns c = processed-in-order
