-- What contracts see of a worker's share.
use Rattle.std.specs.Prelude.{ℕ}

pub record ShareOf : Type 0 where
  -- how many parts of the ledger it has, and how many events are counted in it
  pub parts : ℕ
  pub amount : ℕ
