use Rattle.std.proofs.Common.{◌≡◌}
use Rattle.node_core.specs.Standing.{NodeValue}
use Rattle.node_core.proofs.Truncating.{ended_node}
use Rattle.node_core.proofs.node.Node.end_marks.Given as goal

-- the marks of so many ports are ended
abbrev pub invariant-loop-port : goal.invariant-loop-port
invariant-loop-port l =
    let now : NodeValue = record {
      path = l.self-inside.path;
      links = l.self-inside.links;
      readers = l.self-inside.readers.items;
      clock = l.self-inside.clock;
      state = l.self-inside.state;
      recovering = l.self-inside.recovering;
      spent = l.self-inside.spent;
    } in now ≡ ended_node l.port l.fn.self
