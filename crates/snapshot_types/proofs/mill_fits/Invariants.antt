use Rattle.std.proofs.Common.{ℕ, ◌<◌, slice_index_or}
use Rattle.fragment_mill.specs.States.{parts_of}
use Rattle.fragment_mill.specs.declared.states.OperatorParts.{OperatorParts}
use Rattle.law_saves.specs.Typed.{HasNumbers}
use Rattle.snapshot_types.proofs.mill_fits.Given as goal

abbrev pub invariant-loop-i : goal.invariant-loop-i
invariant-loop-i l = (k : ℕ) (d : OperatorParts) → k < l.i → HasNumbers (slice_index_or (parts_of l.fn.mill).operators k d)
