-- What a join took determines it.
use Rattle.std.proofs.Common.{◌≡◌, ℕ, ◌*◌, false, List, refl}
use Rattle.dpc_model.specs.Fragments.{at_port}
use Rattle.dpc_model.specs.declared.tuples.Tagged.{Tagged}
use Rattle.ops_join.specs.Joins.{kept_from, JoinState, JoinAfter}

-- the join that took these inputs, those below bucket k
abbrev pub join_before : ℕ → List (ℕ × ℕ) → ℕ → List Tagged → ℕ → JoinState
join_before within keys width xs k = record {
  within = within;
  keys = keys;
  width = width;
  left = kept_from within (k * width) (at_port 0 xs);
  right = kept_from within (k * width) (at_port 1 xs);
  next = k;
  spent = false;
}

pub join-is : (j : JoinState) (xs : List Tagged) (k : ℕ) → JoinAfter j xs k → j.spent ≡ false → j ≡ join_before j.within j.keys j.width xs k
join-is j xs k after idle = rw (← after.left, ← after.right, ← after.next, ← idle) refl
