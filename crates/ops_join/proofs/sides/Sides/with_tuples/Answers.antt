use Rattle.ops_join.proofs.sides.Sides.with_tuples.Goals as goal

pub invariant_of-result : goal.invariant_of-result
invariant_of-result c =
    let left = rw c.as_slice.ensures at c.in_ok-left.ensures.indexed in
    let right = rw c.as_slice-2.ensures at c.in_ok-right.ensures.indexed in
    (left, right)
