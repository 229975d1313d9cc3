use Rattle.std.proofs.Common.{refl}
use Rattle.script_words.proofs.places.join_fault.Goals as goal

pub returns : goal.returns
returns c = rw (c.fault_at.ensures, c.needed-within.ensures, c.greatest_end.ensures) refl
