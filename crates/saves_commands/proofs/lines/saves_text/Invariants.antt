use Rattle.std.proofs.Common.{◌≡◌, ◌++◌, length, drop}
use Rattle.dpc_model.specs.Words.{text_of}
use Rattle.saves_commands.specs.Lines.{lines_from}
use Rattle.saves_commands.proofs.lines.saves_text.Given as goal

-- the lines of the other nodes are still to come
abbrev pub invariant-loop-saved : goal.invariant-loop-saved
invariant-loop-saved l = l.text.items ++ text_of (lines_from l.plan l.actor (drop l.saved-index l.told)) ≡ text_of (lines_from l.plan (length l.plan.sources) l.told)
