-- The constant is the table that its definition computes.
use Rattle.std.specs.Fmt.{digits}
use Rattle.borealis_top.proofs.plain.tell_reasons.Goals as goal

pub returns : goal.returns
unfolding digits
returns g c = c.told.ensures
