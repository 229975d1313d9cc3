use Rattle.std.proofs.Common.{◌≡◌, ◌++◌, take}
use Rattle.std.specs.Prelude.{flat_map}
use Rattle.picture_svg.specs.Lanes.{state_bars}
use Rattle.picture_svg.proofs.lanes.put_states.Given as goal

abbrev pub invariant-loop-letter : goal.invariant-loop-letter
invariant-loop-letter l = l.text.items ≡ l.fn.text.items ++ flat_map (state_bars l.step l.y l.letters) (take l.letter-index l.letter-items)
