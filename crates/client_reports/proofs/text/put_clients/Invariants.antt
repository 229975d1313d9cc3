use Rattle.std.proofs.Common.{◌≡◌, ◌++◌, take}
use Rattle.std.specs.Prelude.{flat_map}
use Rattle.client_reports.specs.Telling.{named, text_by}
use Rattle.client_reports.proofs.text.put_clients.Given as goal

abbrev pub invariant-loop-i : goal.invariant-loop-i
invariant-loop-i l = l.text.items ≡ l.fn.text.items ++ flat_map text_by (named (take l.i l.specs) (take l.i l.clients))
