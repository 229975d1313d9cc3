use Rattle.std.proofs.Common.{◌≡◌, ◌+◌, ◌++◌, List, take, false}
use Rattle.std.specs.Prelude.{unwrap_or}
use Rattle.dpc_model.specs.Operators.{all_of}
use Rattle.dpc_model.specs.Engines.{engine_value}
use Rattle.dpc_model.specs.declared.tuples.Tagged.{Tagged}
use Rattle.checkpoint_redo.specs.Keeping.{added_by}
use Rattle.checkpoint_redo.proofs.redoing.redo.Given as goal

-- the first i buckets were processed
abbrev pub invariant-loop-i : goal.invariant-loop-i
invariant-loop-i l x = record {
  fresh : l.M.Engine.is_spent x.engine ≡ false;
  next : l.M.Engine.next x.engine ≡ x.fn.k + x.i;
  operators : l.M.Engine.operators x.engine ≡ l.M.Engine.operators x.fn.engine;
  width : l.M.Engine.width x.engine ≡ l.M.Engine.width x.fn.engine;
  steps : x.steps ≡ x.fn.steps + x.i;
  after : (before : List Tagged) → l.M.Engine.after x.fn.engine before x.fn.k → l.M.Engine.after x.engine (before ++ all_of (take x.i x.fn.buckets)) (x.fn.k + x.i);
  added : (before : List Tagged) → l.M.Engine.after x.fn.engine before x.fn.k
      → x.outputs.items ≡ added_by (engine_value (l.M.Engine.operators x.fn.engine)) (unwrap_or (l.M.Engine.width x.fn.engine) 0) before (take x.i x.fn.buckets) x.fn.k;
}
