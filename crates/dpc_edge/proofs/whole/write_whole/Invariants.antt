use Rattle.std.proofs.Common.{◌≤◌, ◌-◌, take, length}
use Rattle.dpc_edge.specs.Edges.{Took}
use Rattle.dpc_edge.proofs.whole.write_whole.Given as goal

abbrev pub invariant-loop-done : goal.invariant-loop-done
invariant-loop-done g l =
    let sink = g.K.Sink in
    record {
      within : l.done ≤ length l.text;
      took : Took (sink.edge l.fn.out) (sink.edge l.out) (take l.done l.text);
    }

abbrev pub decreases-loop-done : goal.decreases-loop-done
decreases-loop-done g l = length l.text - l.done
