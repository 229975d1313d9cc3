use Rattle.std.proofs.Common.{◌≡◌, ◌*◌, true, sym, subst}
use Rattle.ops_join.specs.Joins.{JoinState}
use Rattle.ops_join.specs.Saving.{can_all_wait}
use Rattle.ops_join.proofs.join.Join.from_sides.Goals as goal

pub invariant_of-result : goal.invariant_of-result
invariant_of-result c =
    let left = subst (λ (j : JoinState). can_all_wait j.within (c.args.next * j.width) c.args.left ≡ true) (sym c.join.view_is) c.requires.left in
    let right = subst (λ (j : JoinState). can_all_wait j.within (c.args.next * j.width) c.args.right ≡ true) (sym c.join.view_is) c.requires.right in
    rw (c.in_ok-sides.ensures, c.into_vec.ensures, c.into_vec-2.ensures) (left, right)
