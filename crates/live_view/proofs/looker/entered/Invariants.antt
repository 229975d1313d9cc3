use Rattle.left_right.specs.Sides.{view}
use Rattle.live_view.specs.Showing.{Precedes}
use Rattle.live_view.proofs.looker.entered.Given as goal

abbrev pub invariant-loop : goal.invariant-loop
invariant-loop g l =
    (goal.iterator-loop g).can_next l.iterator' × (goal.iterator-loop g).is_finite l.iterator'
    × Precedes (view l.fn.reader.place) (view l.reader.place)
