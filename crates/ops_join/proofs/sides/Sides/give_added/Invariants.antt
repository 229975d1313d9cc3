use Rattle.std.proofs.Common.{◌≡◌, ◌-◌, length, take}
use Rattle.dpc_model.specs.Fragments.{at_port}
use Rattle.ops_join.specs.Sides.{taken, bucket_rows}
use Rattle.ops_join.specs.RowsOut.{Takes}
use Rattle.ops_join.specs.declared.ends.End.TheVariants.{Left, Right}
use Rattle.ops_join.proofs.Groups.{Reached}
use Rattle.ops_join.proofs.sides.Sides.give_added.Given as goal

abbrev pub invariant-loop-done : goal.invariant-loop-done
invariant-loop-done g l = record {
  reached : Reached l.fn.self.left l.fn.self.right l.inputs l.done;
  state : l.self ≡ taken Left (at_port 0 (take l.done l.inputs)) (taken Right (at_port 1 (take l.done l.inputs)) l.fn.self);
  rows : Takes (g.R.RowSink.took l.fn.sink l.fn.out) (g.R.RowSink.took l.sink l.out)
      (bucket_rows l.within l.fn.self.keys l.fn.self.left l.fn.self.right (at_port 0 (take l.done l.inputs)) (at_port 1 (take l.done l.inputs)));
}

abbrev pub decreases-loop-done : goal.decreases-loop-done
decreases-loop-done g l = length l.inputs - l.done
