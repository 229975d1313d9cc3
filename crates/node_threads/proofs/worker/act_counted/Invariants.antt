use Rattle.std.specs.Prelude.{◌≡◌}
use Rattle.node_threads.proofs.worker.act_counted.Given as goal

abbrev pub invariant-loop : goal.invariant-loop
invariant-loop g l =
    (goal.iterator-loop g).can_next l.iterator' × (goal.iterator-loop g).is_finite l.iterator' × (l.share.parts ≡ l.fn.share.parts)
    × (g.A.Role.kept l.role ≡ g.A.Role.kept l.fn.role) × g.A.Role.may_act l.role
