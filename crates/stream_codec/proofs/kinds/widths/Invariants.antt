use Rattle.std.proofs.Common.{◌≡◌, ◌≤◌, ◌+◌, ◌*◌, drop}
use Rattle.stream_codec.specs.Frames as frames
use Rattle.stream_codec.proofs.kinds.widths.Given as goal

abbrev pub invariant-loop-i : goal.invariant-loop-i
invariant-loop-i l = record {
  value : l.total + frames.widths (drop l.i l.fields) ≡ frames.widths l.fields;
  most : l.total ≤ 8 * l.i;
}
