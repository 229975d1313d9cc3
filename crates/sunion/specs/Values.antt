-- What contracts see of the inputs of a node.
use Rattle.std.specs.Prelude.{ℕ}
use Rattle.dpc_model.specs.PartStands.{UnionValue}

-- the width of a bucket, how many buckets there are, the delay, and the inputs as they are kept
pub record SUnionValue : Type 0 where
  pub width : ℕ
  pub buckets : ℕ
  pub delay : ℕ
  pub union : UnionValue
