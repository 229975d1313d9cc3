use Rattle.std.proofs.Common.{◌≡◌, ◌≤◌, ◌+◌, ◌*◌, ◌++◌, length, take, drop}
use Rattle.stream_codec.specs.Frames as spec
use Rattle.stream_codec.proofs.decoding.read_numbers.Given as goal

abbrev pub invariant-loop-i : goal.invariant-loop-i
invariant-loop-i l = record {
  size : length l.numbers ≡ 3;
  place : l.place + spec.widths (drop l.i l.fields) ≡ spec.widths l.fields;
  most : l.place ≤ 8 * l.i;
  bad : spec.bad_place (5 + l.place) (drop l.i l.fields) (drop l.place l.body) ≡ spec.bad_place 5 l.fields l.body;
  read : take l.i l.numbers ++ spec.numbers_at (drop l.i l.fields) (drop l.place l.body) ≡ spec.numbers_at l.fields l.body;
}
