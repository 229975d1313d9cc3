use Rattle.std.proofs.Common.{◌≡◌, ◌-◌, ◌*◌, ◌++◌, drop}
use Rattle.stream_codec.specs.Frames as spec
use Rattle.stream_codec.proofs.decoding.read_values.Given as goal

abbrev pub invariant-loop-i : goal.invariant-loop-i
invariant-loop-i l =
    l.values ++ spec.values_at (l.count - l.i) (drop (8 * l.i) l.bytes) ≡ spec.values_at l.count l.bytes
