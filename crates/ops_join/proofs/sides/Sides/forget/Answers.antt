use Rattle.ops_join.specs.declared.ends.End.TheVariants.{Left, Right}
use Rattle.ops_join.proofs.sides.Sides.forget.Goals as goal

pub invariant_of-self : goal.invariant_of-self
invariant_of-self c = (c.forget.ensures.indexed Left c.self.inside.keys c.self.invariant.0, c.forget-2.ensures.indexed Right c.self.inside.keys c.self.invariant.1)
