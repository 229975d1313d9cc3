use Rattle.std.proofs.Common.{◌≡◌, ◌++◌, length, drop}
use Rattle.byteorder.specs.Endian.{big_bytes}
use Rattle.stream_codec.specs.Frames as spec
use Rattle.stream_codec.proofs.encoding.put_columns.Given as goal

abbrev pub invariant-loop-value : goal.invariant-loop-value
invariant-loop-value l =
    l.bytes.items ++ spec.value_bytes (drop l.value-index l.values)
    ≡ l.fn.bytes.items ++ big_bytes 1 (length l.values) ++ spec.value_bytes l.values
