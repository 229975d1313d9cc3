-- What an aggregate took determines it.
use Rattle.std.proofs.Common.{◌≡◌, ℕ, ◌*◌, false, Option, List, refl}
use Rattle.dpc_model.specs.Fragments.{at_port}
use Rattle.dpc_model.specs.declared.tuples.Tagged.{Tagged}
use Rattle.dpc_model.specs.declared.operators.Agg.{Agg}
use Rattle.ops_window.specs.Windows.{open_cells, AggregateState, AggregateAfter}

-- the aggregate that took these inputs, those below bucket k
abbrev pub aggregate_before : ℕ → ℕ → Option ℕ → List Agg → ℕ → List Tagged → ℕ → AggregateState
aggregate_before size step group aggs width xs k = record {
  size = size;
  step = step;
  group = group;
  aggs = aggs;
  width = width;
  cells = open_cells size step group aggs (at_port 0 xs) (k * width);
  next = k;
  spent = false;
}

pub aggregate-is : (a : AggregateState) (xs : List Tagged) (k : ℕ) → AggregateAfter a xs k → a.spent ≡ false →
    a ≡ aggregate_before a.size a.step a.group a.aggs a.width xs k
aggregate-is a xs k after idle = rw (← after.cells, ← after.next, ← idle) refl
