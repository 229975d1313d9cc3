use Rattle.std.proofs.Common.{refl}
use Rattle.script_words.proofs.places.aggregate_fault.Goals as goal

pub returns : goal.returns
returns c = rw (c.fault_at.ensures, c.needed-size.ensures, c.greatest_end.ensures) refl
