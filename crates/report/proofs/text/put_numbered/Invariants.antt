use Rattle.std.proofs.Common.{◌≡◌, ◌++◌, map, take}
use Rattle.dpc_model.specs.Words.{text_of}
use Rattle.dpc_model.specs.Sessions.{stable_items}
use Rattle.report.specs.Text.{item_words}
use Rattle.report.proofs.text.put_numbered.Given as goal

abbrev pub invariant-loop-number : goal.invariant-loop-number
invariant-loop-number l = l.text.items ≡ l.fn.text.items ++ text_of (map item_words (stable_items l.first (take l.number l.tuples)))
