use Rattle.ops_join.specs.declared.ends.End.TheVariants.{Left, Right}
use Rattle.ops_join.proofs.sides.Sides.copy.Goals as goal

pub invariant_of-result : goal.invariant_of-result
invariant_of-result c =
    rw c.in_ok-keys.ensures (c.in_ok-left.ensures.indexed Left c.self.inside.keys c.self.invariant.0, c.in_ok-right.ensures.indexed Right c.self.inside.keys c.self.invariant.1)
