use Rattle.std.proofs.Common.{◌≡◌, map, take}
use Rattle.serde_json.specs.View.{view}
use Rattle.client_fold.specs.Folding.{all_taken}
use Rattle.client_reports.specs.Json.{item_data}
use Rattle.client_reports.proofs.json.items_value.Given as goal

abbrev pub invariant-loop-items : goal.invariant-loop-items
invariant-loop-items l = map view l.list.items ≡ map item_data (all_taken (take l.items-index l.taken))
