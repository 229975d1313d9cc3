use Rattle.std.specs.Prelude.{flat_map}
use Rattle.std.specs.Int.{w64, cast_unsigned}
use Rattle.byteorder.specs.Endian.{big_bytes}
use Rattle.snapshot_form.specs.Bytes.{total_bytes}
use Rattle.snapshot_writer.proofs.Appended.{three-writes}
use Rattle.snapshot_writer.proofs.writing.put_cell.Goals as goal

pub returns : goal.returns
returns c =
    three-writes c.args.buf.now.items (big_bytes 8 c.args.key.0) (big_bytes 8 (cast_unsigned w64 c.args.key.1)) (flat_map total_bytes c.args.totals.now) _ _ _
    c.in_ok-put_number.ensures c.in_ok-put_signed.ensures c.in_ok-put_totals.ensures
