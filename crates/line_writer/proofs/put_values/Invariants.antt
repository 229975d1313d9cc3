use Rattle.std.proofs.Common.{◌≡◌, ◌++◌, map, take}
use Rattle.std.specs.Fmt.{signed_decimal}
use Rattle.line_writer.specs.Spaces.{behind_spaces}
use Rattle.line_writer.proofs.put_values.Given as goal

abbrev pub invariant-loop-value : goal.invariant-loop-value
invariant-loop-value l = l.text.items ≡ l.fn.text.items ++ behind_spaces (map signed_decimal (take l.value-index l.values))
