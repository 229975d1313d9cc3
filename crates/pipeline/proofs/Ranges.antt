-- Numbers of buckets stay in range where their ends do.
use Rattle.std.proofs.Common.{ℕ, ◌*◌, ◌<◌, ◌≤◌, arith, mul-le-mul_right, mul-le-mul_left}

pub ends-below : (w n m b : ℕ) → n ≤ m → m * w < b → n * w < b
ends-below w n m b le h = let more : n * w ≤ m * w = mul-le-mul_right w le in omega (arith, more, h)

pub number-below : (w n b : ℕ) → 0 < w → n * w < b → n < b
number-below w n b some h = let more : n * 1 ≤ n * w = mul-le-mul_left n some in omega (arith, more, h)

-- a number up to another one whose bucket ends in range
pub earlier-below : (w n m b : ℕ) → 0 < w → n ≤ m → m * w < b → n < b
earlier-below w n m b some le h = number-below w n b some (ends-below w n m b le h)
