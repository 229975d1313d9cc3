-- The parts of the plain node, as the contracts of each part see them.
use Rattle.std.specs.Prelude.{◌*◌, map}
use Rattle.dpc_model.specs.Ports.{Port}
use Rattle.dpc_model.specs.Parts.{Inputs, Stream, Outputs, Upstream, Neighbours}
use Rattle.node_model.specs.Nodes.{Home, PlainNode, out_stable, out_tentative, out_passed}

abbrev pub inputs_of : PlainNode → Inputs
inputs_of n = record { inlets = map (λ (p : Port). p.inlet) n.ports; stamps = n.stamps; cursor = n.cursor; closed = n.closed }

-- the node's output stream
abbrev pub stream_of : Home → PlainNode → Stream
stream_of home n =
    record { stable = out_stable home n; bound = n.cursor * home.plan.width; tentative = out_tentative home n; passed = out_passed home n }

abbrev pub outputs_of : PlainNode → Outputs
outputs_of n = record { subs = n.subs; acks = n.acks; base = n.base }

-- what a port knows of its stream's senders
abbrev pub upstream_of : Port → Upstream
upstream_of p = record { chosen = p.chosen; watches = p.watches; ticks = p.ticks }

abbrev pub neighbours_of : PlainNode → Neighbours
neighbours_of n = record { upstreams = map upstream_of n.ports; grants = n.grants; peers = n.peers; tries = n.tries }
