use Rattle.std.proofs.Common.{◌≡◌, ◌++◌, map}
use Rattle.world_parts.proofs.Posting.{as_mail}
use Rattle.world_parts.proofs.envelopes.as_mails.Given as goal

abbrev pub invariant-loop-out : goal.invariant-loop-out
invariant-loop-out l = l.mails.items ++ map as_mail l.out-iterator.rest.items ≡ map as_mail l.fn.outs.items
