use Rattle.std.proofs.Common.{◌≡◌, ◌++◌, map}
use Rattle.dpc_lists.specs.Lists.{range_with_len}
use Rattle.dpc_model.specs.Words.{text_of}
use Rattle.picture_text.specs.Text.{summary_line}
use Rattle.picture_text.proofs.text.put_summaries.Given as goal

abbrev pub invariant-loop-client : goal.invariant-loop-client
invariant-loop-client l = l.text.items ≡ l.fn.text.items ++ text_of (map (summary_line l.plan l.clients) (range_with_len 0 l.client))
