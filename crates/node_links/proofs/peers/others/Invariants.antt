use Rattle.std.proofs.Common.{◌≡◌, ◌==◌, not, take, filter}
use Rattle.node_links.proofs.peers.others.Given as goal

-- the others so far
abbrev pub invariant-loop-actor : goal.invariant-loop-actor
invariant-loop-actor l = l.rest.items ≡ filter (λ a. not (a == l.one)) (take l.actor-index l.actors)
