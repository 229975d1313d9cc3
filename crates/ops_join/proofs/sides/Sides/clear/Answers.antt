use Rattle.ops_join.specs.declared.ends.End.TheVariants.{Left, Right}
use Rattle.ops_join.proofs.sides.Sides.clear.Goals as goal

pub invariant_of-self : goal.invariant_of-self
invariant_of-self c = (c.clear.ensures.indexed Left c.self.inside.keys, c.clear-2.ensures.indexed Right c.self.inside.keys)
