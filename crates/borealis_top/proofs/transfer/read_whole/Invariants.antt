use Rattle.std.proofs.Common.{◌≡◌, ◌≤◌, ◌-◌, ◌+◌, vec_len}
use Rattle.dpc_edge.specs.Edges.{Gave}
use Rattle.borealis_top.specs.declared.transfer.TheConstants.{PIECE}
use Rattle.borealis_top.proofs.transfer.read_whole.Given as goal

abbrev pub invariant-loop-bytes : goal.invariant-loop-bytes
invariant-loop-bytes g l =
    let source = g.S.Source in
    record {
      gave : Gave (source.edge l.fn.input) (source.edge l.input) l.bytes.items;
      short : vec_len l.bytes ≤ l.fn.longest + 1;
      room : vec_len l.room ≡ PIECE;
    }

abbrev pub decreases-loop-bytes : goal.decreases-loop-bytes
decreases-loop-bytes g l = l.fn.longest + 1 - vec_len l.bytes
