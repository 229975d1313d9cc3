use Rattle.std.proofs.Common.{◌≡◌}
use Rattle.client_views.proofs.watch.Watch.look_last.Given as goal

abbrev pub invariant-loop : goal.invariant-loop
invariant-loop g l =
    (goal.iterator-loop g).can_next l.iterator' × (goal.iterator-loop g).is_finite l.iterator'
    × (l.self-inside.client ≡ l.fn.self) × (l.self-inside.looker.client ≡ l.self-inside.client)
