use Rattle.std.proofs.Common.{◌≡◌, take}
use Rattle.client_fold.specs.Folding.{acks_of}
use Rattle.client_fold.proofs.client.tick.acks.Given as goal

-- the first senders are told
abbrev pub invariant-loop-sender : goal.invariant-loop-sender
invariant-loop-sender l = l.outs.items ≡ acks_of l.count (take l.sender-index l.senders)
