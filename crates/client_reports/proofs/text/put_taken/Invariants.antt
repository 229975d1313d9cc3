use Rattle.std.proofs.Common.{◌≡◌, ◌++◌, map, take}
use Rattle.dpc_model.specs.Words.{text_of}
use Rattle.client_fold.specs.Folding.{all_taken}
use Rattle.report.specs.Text.{item_words}
use Rattle.client_reports.proofs.text.put_taken.Given as goal

abbrev pub invariant-loop-items : goal.invariant-loop-items
invariant-loop-items l = l.text.items ≡ l.fn.text.items ++ text_of (map item_words (all_taken (take l.items-index l.taken)))
