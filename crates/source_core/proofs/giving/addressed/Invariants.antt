use Rattle.std.proofs.Common.{◌≡◌, ◌++◌}
use Rattle.node_model.specs.Mails.{mails, to_readers}
use Rattle.source_core.proofs.giving.addressed.Given as goal

abbrev pub invariant-loop-reader : goal.invariant-loop-reader
invariant-loop-reader l = mails l.outs.items ++ to_readers l.readers l.reader-iterator.rest.items ≡ to_readers l.fn.readers l.fn.sends.items
