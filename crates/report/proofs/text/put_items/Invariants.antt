use Rattle.std.proofs.Common.{◌≡◌, ◌++◌, map, take}
use Rattle.dpc_model.specs.Words.{text_of}
use Rattle.report.specs.Text.{item_words}
use Rattle.report.proofs.text.put_items.Given as goal

abbrev pub invariant-loop-item : goal.invariant-loop-item
invariant-loop-item l = l.text.items ≡ l.fn.text.items ++ text_of (map item_words (take l.item-index l.items))
