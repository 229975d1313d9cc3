use Rattle.std.proofs.Common.{◌≡◌, ◌++◌, length}
use Rattle.std.specs.Prelude.{option_map}
use Rattle.recorded_streams.specs.Cuts.{pieces_left}
use Rattle.recorded_streams.specs.Streams.{values_in}
use Rattle.recorded_streams.proofs.items.values_in.Given as goal

-- these values, and those that the words left are, are those of all words
abbrev pub invariant-loop-word : goal.invariant-loop-word
invariant-loop-word l = values_in (pieces_left l.fn.words) ≡ option_map (λ zs. l.values ++ zs) (values_in (pieces_left l.words))

abbrev pub decreases-loop-word : goal.decreases-loop-word
decreases-loop-word l = length (pieces_left l.words)
