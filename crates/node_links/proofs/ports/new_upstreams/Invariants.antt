use Rattle.std.proofs.Common.{◌≡◌, map, take}
use Rattle.dpc_model.specs.Actors.{senders_of}
use Rattle.dpc_model.specs.declared.plans.StreamRef.{StreamRef}
use Rattle.upstream.specs.Upstreams.{new_upstream}
use Rattle.node_links.proofs.ports.new_upstreams.Given as goal

-- those so far
abbrev pub invariant-loop-stream : goal.invariant-loop-stream
invariant-loop-stream l = l.upstreams.items ≡ map (λ (s : StreamRef). new_upstream (senders_of l.plan s)) (take l.stream-index l.streams)
