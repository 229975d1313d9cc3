use Rattle.std.proofs.Common.{◌≡◌, take}
use Rattle.node_model.specs.Mails.{mails}
use Rattle.source_core.proofs.Sends.{beats_to}
use Rattle.source_core.proofs.giving.beats.Given as goal

abbrev pub invariant-loop-reader : goal.invariant-loop-reader
invariant-loop-reader l = mails l.outs.items ≡ beats_to (take l.reader l.readers) (take l.reader l.sessions)
