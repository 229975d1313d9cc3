use Rattle.std.proofs.Common.{◌≡◌, take}
use Rattle.dpc_model.specs.Sessions.{batches_from}
use Rattle.soutput.proofs.batches.batches.Given as goal

abbrev pub invariant-loop-reader : goal.invariant-loop-reader
invariant-loop-reader l = l.sends.items ≡ batches_from 0 l.fn.items.items (take l.reader l.sessions)
