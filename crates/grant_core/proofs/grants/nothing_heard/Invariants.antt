use Rattle.std.proofs.Common.{◌≡◌, replicate, None}
use Rattle.grant_core.proofs.grants.nothing_heard.Given as goal

-- so many replicas so far
abbrev pub invariant-loop : goal.invariant-loop
invariant-loop l = l.heard.items ≡ replicate l.counter None
