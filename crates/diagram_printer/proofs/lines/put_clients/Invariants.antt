use Rattle.std.proofs.Common.{◌≡◌, ◌++◌, take, map}
use Rattle.dpc_model.specs.Words.{text_of}
use Rattle.dpc_model.specs.ScriptText.{client_line}
use Rattle.diagram_printer.proofs.lines.put_clients.Given as goal

abbrev pub invariant-loop-client : goal.invariant-loop-client
invariant-loop-client l = l.text.items ≡ l.fn.text.items ++ text_of (map (client_line l.plan) (take l.client-index l.plan.clients))
