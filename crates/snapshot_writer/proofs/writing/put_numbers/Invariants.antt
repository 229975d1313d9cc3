use Rattle.std.proofs.Common.{◌≡◌, ◌++◌, drop}
use Rattle.std.specs.Prelude.{flat_map}
use Rattle.byteorder.specs.Endian.{big_bytes}
use Rattle.snapshot_writer.proofs.writing.put_numbers.Given as goal

abbrev pub invariant-loop-number : goal.invariant-loop-number
invariant-loop-number l = l.buf.items ++ flat_map (big_bytes 8) (drop l.number-index l.numbers) ≡ l.fn.buf.items ++ flat_map (big_bytes 8) l.numbers
