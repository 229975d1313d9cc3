use Rattle.std.proofs.Common.{◌≡◌, ◌*◌, true, sym, subst}
use Rattle.ops_window.specs.Windows.{AggregateState}
use Rattle.ops_window.specs.Saving.{can_all_wait}
use Rattle.ops_window.proofs.Resumes.{wait-sorted, saved-kept}
use Rattle.ops_window.proofs.aggregate.Aggregate.from_cells.Goals as goal

pub from_saved-requires : goal.from_saved-requires
from_saved-requires c =
    let a = c.args.aggregate in
    wait-sorted a.size a.step a.group a.aggs (c.args.next * a.width) c.args.cells.now c.requires

pub invariant_of-result-2 : goal.invariant_of-result-2
invariant_of-result-2 c = λ idle.
    let wait = subst (λ (a : AggregateState). can_all_wait a.size a.step a.group a.aggs (c.args.next * a.width) c.args.cells.now ≡ true) (sym c.aggregate.view_is) c.requires in
    rw (c.in_ok-cells.ensures, saved-kept c.args.cells.now) wait
