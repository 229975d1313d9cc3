-- Engines that take one bucket after another: what they take, and what they answer.
use Rattle.std.specs.Prelude.{⊤, ◌≡◌, ℕ, ◌+◌, ◌*◌, ◌^◌, ◌<◌, Bool, true, false, IsTrue, ◌&&◌, ◌||◌, ◌==◌, nat_lt, nat_le, Option, Some, None, List, [], ◌∷◌, ◌++◌, map, filter, length, drop, All}
use Rattle.std.specs.List.{AllAdjacentBelow}
use Rattle.dpc_lists.specs.Lists.{range_with_len}
use Rattle.dpc_model.specs.Fragments.{at_port, fragment_value}
use Rattle.dpc_model.specs.Operators.{output_of}
use Rattle.dpc_model.specs.declared.tuples.Tuple.{Tuple}
use Rattle.dpc_model.specs.declared.tuples.Tagged.{Tagged}
use Rattle.dpc_model.specs.declared.operators.OpKind.{OpKind}
use Rattle.dpc_model.specs.declared.operators.OpSpec.{OpSpec}
use Rattle.dpc_model.specs.declared.operators.Wire.TheVariants.{Port}

-- what an engine makes of its whole inputs, known up to a time
abbrev pub Value : Type 0
Value = List Tagged → ℕ → List Tuple

-- whether a tagged tuple lies in bucket k
abbrev pub lies_in : ℕ → ℕ → Tagged → Bool
lies_in width k x = nat_le (k * width) x.tuple.stime && nat_lt x.tuple.stime ((k + 1) * width)

abbrev pub LiesIn : ℕ → ℕ → Tagged → Type 0
LiesIn width k x = IsTrue (lies_in width k x)

-- whether a tagged tuple may stand before another: by time, then by port
abbrev pub precedes : Tagged → Tagged → Bool
precedes x y = nat_lt x.tuple.stime y.tuple.stime || (x.tuple.stime == y.tuple.stime && nat_le x.port y.port)

-- each tuple may stand before the next one
abbrev pub is_serial : List Tagged → Bool
is_serial [] = true
is_serial (x ∷ []) = true
is_serial (x ∷ y ∷ xs) = precedes x y && is_serial (y ∷ xs)

-- the tagged tuples of bucket k, in order of time and port
pub record IsBucket (width k : ℕ) (xs : List Tagged) : Type 0 where
  pub inside : All (LiesIn width k) xs
  pub ordered : AllAdjacentBelow (λ x y. IsTrue (precedes x y)) xs (length xs)

-- the inputs of bucket k, whose end is below 2^64
pub record FitsBucket (width k : ℕ) (xs : List Tagged) : Type 0 where
  pub bucket : IsBucket width k xs
  pub end : (k + 1) * width < 2 ^ 64

-- what an engine takes as bucket k: inputs of the bucket, where its buckets have a width, else any
abbrev pub Accepts : Option ℕ → ℕ → List Tagged → Type 0
Accepts None k xs = ⊤
Accepts (Some width) k xs = FitsBucket width k xs

-- each of these buckets, from number k on, is accepted in its turn
abbrev pub AcceptsAll : Option ℕ → ℕ → List (List Tagged) → Type 0
AcceptsAll width k [] = ⊤
AcceptsAll width k (b ∷ bs) = Accepts width k b × AcceptsAll width (k + 1) bs

-- a tagged tuple lies below a time
abbrev pub LiesBelow : ℕ → Tagged → Type 0
LiesBelow b x = x.tuple.stime < b

-- the tuples from a time on, in order
abbrev pub from_time : ℕ → List Tuple → List Tuple
from_time b ts = filter (λ t. nat_le b t.stime) ts

-- the tuples that came by each of the first n ports
abbrev pub ports_of : ℕ → List Tagged → List (List Tuple)
ports_of n xs = map (λ p. at_port p xs) (range_with_len 0 n)

-- an engine of these operators makes what a fragment of them does
abbrev pub engine_value : List OpSpec → Value
engine_value ops = fragment_value ops

-- one operator of n inputs, which it reads by ports 0 to n - 1
abbrev pub lone_operator : OpKind → ℕ → List OpSpec
lone_operator kind n = record { name = []; kind = kind; reads = map Port (range_with_len 0 n) } ∷ []

-- the operators without their names
abbrev pub nameless : List OpSpec → List OpSpec
nameless ops = map (λ (op : OpSpec). record { name = []; kind = op.kind; reads = op.reads }) ops

-- what an operator makes of n inputs
abbrev pub operator_value : OpKind → ℕ → Value
operator_value kind n xs b = output_of kind (ports_of n xs) b

-- two unspent engines of one width with the same operators took the same inputs, those of the buckets below this one
pub record TookAlike {M : Type 0} (width : M → Option ℕ) (operators : M → List OpSpec) (is_spent : M → Bool)
    (after : M → List Tagged → ℕ → Type 0) (m n : M) (xs : List Tagged) (k : ℕ) : Type 0 where
  pub wide : width m ≡ width n
  pub made_of : operators m ≡ operators n
  pub unspent : (is_spent m ≡ false) × (is_spent n ≡ false)
  pub took : after m xs k × after n xs k

-- the output that bucket k adds, where the inputs before it are known
abbrev pub added_output : Value → ℕ → List Tagged → List Tagged → ℕ → List Tuple
added_output value width before bucket k = drop (length (value before (k * width))) (value (before ++ bucket) ((k + 1) * width))
