use Rattle.std.proofs.Common.{◌≡◌, ◌++◌, map}
use Rattle.world_parts.specs.Counting.{posted}
use Rattle.world_parts.proofs.envelopes.push_mails.Given as goal

abbrev pub invariant-loop-mail : goal.invariant-loop-mail
invariant-loop-mail l = l.envelopes.items ++ map (posted l.fn.sender) l.mail-iterator.rest.items ≡ l.fn.envelopes.items ++ map (posted l.fn.sender) l.fn.mails.items
