use Rattle.std.proofs.Common.{◌≡◌, ◌++◌, drop}
use Rattle.stream_codec.specs.Frames as spec
use Rattle.stream_codec.proofs.encoding.put_numbers.Given as goal

abbrev pub invariant-loop-i : goal.invariant-loop-i
invariant-loop-i l =
    l.bytes.items ++ spec.number_bytes (drop l.i l.fields) (drop l.i l.numbers)
    ≡ l.fn.bytes.items ++ spec.number_bytes l.fields l.numbers
