-- A join as an engine over buckets, and what it keeps.
use Rattle.std.specs.Prelude.{◌≡◌, ℕ, ◌+◌, ◌*◌, Bool, false, nat_le, List, [], filter, All}
use Rattle.dpc_model.specs.Operators.{joined}
use Rattle.dpc_model.specs.Fragments.{at_port}
use Rattle.dpc_model.specs.Engines.{Value, LiesBelow, engine_value, lone_operator, added_output}
use Rattle.dpc_model.specs.declared.tuples.Tuple.{Tuple}
use Rattle.dpc_model.specs.declared.tuples.Tagged.{Tagged}
use Rattle.dpc_model.specs.declared.operators.OpKind.TheVariants as kind

-- a join pairs the tuples of port 0 with those of port 1
abbrev pub join_value : ℕ → List (ℕ × ℕ) → Value
join_value within keys xs b = joined within keys (at_port 0 xs) (at_port 1 xs)

-- the tuples that can still meet a partner from a time on
abbrev pub kept_from : ℕ → ℕ → List Tuple → List Tuple
kept_from within b ts = filter (λ t. nat_le b (t.stime + within)) ts

-- what contracts see of a join: the greatest distance in time, the key columns of left and right, the
-- width of a bucket, the tuples that it keeps of each side, the next bucket, and whether it wanted memory
pub record JoinState : Type 0 where
  pub within : ℕ
  pub keys : List (ℕ × ℕ)
  pub width : ℕ
  pub left : List Tuple
  pub right : List Tuple
  pub next : ℕ
  pub spent : Bool

-- a join before bucket 0
abbrev pub new_join : ℕ → List (ℕ × ℕ) → ℕ → JoinState
new_join within keys width = record { within = within; keys = keys; width = width; left = []; right = []; next = 0; spent = false }

-- the rows that bucket k adds, where it took the inputs before it
abbrev pub join_added : JoinState → List Tagged → List Tagged → ℕ → List Tuple
join_added j before bucket k = added_output (engine_value (lone_operator (kind.Join j.within j.keys) 2)) j.width before bucket k

-- it took these inputs, those below bucket k, and keeps exactly the tuples of each side that can
-- still meet a partner
pub record JoinAfter (j : JoinState) (xs : List Tagged) (k : ℕ) : Type 0 where
  pub next : j.next ≡ k
  pub below : All (LiesBelow (k * j.width)) xs
  pub left : j.left ≡ kept_from j.within (k * j.width) (at_port 0 xs)
  pub right : j.right ≡ kept_from j.within (k * j.width) (at_port 1 xs)
