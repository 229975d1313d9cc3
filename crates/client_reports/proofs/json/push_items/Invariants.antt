use Rattle.std.proofs.Common.{◌≡◌, ◌++◌, map, take}
use Rattle.serde_json.specs.View.{view}
use Rattle.client_reports.specs.Json.{item_data}
use Rattle.client_reports.proofs.json.push_items.Given as goal

abbrev pub invariant-loop-item : goal.invariant-loop-item
invariant-loop-item l = map view l.list.items ≡ map view l.fn.list.items ++ map item_data (take l.item-index l.items)
