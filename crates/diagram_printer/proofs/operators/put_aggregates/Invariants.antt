use Rattle.std.proofs.Common.{◌≡◌, ◌++◌, take, flat_map}
use Rattle.dpc_model.specs.ScriptText.{agg_words}
use Rattle.line_writer.specs.Spaces.{behind_spaces}
use Rattle.diagram_printer.proofs.operators.put_aggregates.Given as goal

abbrev pub invariant-loop-agg : goal.invariant-loop-agg
invariant-loop-agg l = l.text.items ≡ l.fn.text.items ++ behind_spaces (flat_map agg_words (take l.agg-index l.aggs))
