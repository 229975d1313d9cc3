use Rattle.std.proofs.Common.{◌≡◌, take, max}
use Rattle.std.specs.Prelude.{fold}
use Rattle.picture_svg.proofs.lines.most_in.Given as goal

abbrev pub invariant-loop-value : goal.invariant-loop-value
invariant-loop-value l = l.most ≡ fold max 1 (take l.value-index l.values)
