use Rattle.std.proofs.Common.{◌≡◌, ◌+◌, drop}
use Rattle.world_parts.specs.Counting.{all_carried}
use Rattle.world_parts.proofs.envelopes.items_in_all.Given as goal

abbrev pub invariant-loop-mail : goal.invariant-loop-mail
invariant-loop-mail l = l.items + all_carried (drop l.mail-index l.mails) ≡ all_carried l.mails
