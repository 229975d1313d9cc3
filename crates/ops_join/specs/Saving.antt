-- The tuples that a join can have kept, as a test, and a join of such tuples.
use Rattle.std.specs.Prelude.{ℕ, ◌+◌, Bool, true, false, ◌&&◌, nat_lt, nat_le, List, [], ◌∷◌}
use Rattle.dpc_model.specs.declared.tuples.Tuple.{Tuple}
use Rattle.ops_join.specs.Joins.{JoinState}

-- whether a tuple lies below b, and can still meet a partner from b on
abbrev pub can_wait : ℕ → ℕ → Tuple → Bool
can_wait within b t = nat_lt t.stime b && nat_le b (t.stime + within)

-- whether each does, in order of time, none before this one
abbrev pub can_wait_from : ℕ → ℕ → ℕ → List Tuple → Bool
can_wait_from within b from [] = true
can_wait_from within b from (t ∷ ts) = (nat_le from t.stime && can_wait within b t) && can_wait_from within b t.stime ts

-- whether a side may hold these tuples where the next bucket begins at b
abbrev pub can_all_wait : ℕ → ℕ → List Tuple → Bool
can_all_wait within b ts = can_wait_from within b 0 ts

-- a join with these tuples on its sides, before bucket `next`
abbrev pub resumed_join : JoinState → ℕ → List Tuple → List Tuple → JoinState
resumed_join j next left right = record {
  within = j.within;
  keys = j.keys;
  width = j.width;
  left = left;
  right = right;
  next = next;
  spent = false;
}
