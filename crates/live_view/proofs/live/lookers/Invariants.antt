use Rattle.std.proofs.Common.{◌≡◌, replicate}
use Rattle.left_right.specs.Sides.{view}
use Rattle.live_view.specs.Looking.{looker_of}
use Rattle.live_view.proofs.live.lookers.Given as goal

abbrev pub invariant-loop : goal.invariant-loop
invariant-loop g l =
    (l.made.items ≡ replicate l.counter (looker_of (view l.fn.writer.desk.place) 0 0))
    × (l.writer.desk.shown ≡ l.fn.writer.desk.shown) × (view l.writer.desk.place ≡ view l.fn.writer.desk.place)
    × (l.writer.log ≡ l.fn.writer.log) × (l.writer.behind ≡ l.fn.writer.behind)
