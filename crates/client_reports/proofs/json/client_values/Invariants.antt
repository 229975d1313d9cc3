use Rattle.std.proofs.Common.{◌≡◌, map, take}
use Rattle.serde_json.specs.View.{view}
use Rattle.client_reports.specs.Telling.{named, data_by}
use Rattle.client_reports.proofs.json.client_values.Given as goal

abbrev pub invariant-loop-i : goal.invariant-loop-i
invariant-loop-i l = map view l.list.items ≡ map data_by (named (take l.i l.specs) (take l.i l.clients))
