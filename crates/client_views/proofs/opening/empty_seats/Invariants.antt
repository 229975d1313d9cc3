use Rattle.std.proofs.Common.{◌≡◌, [], replicate, vec_len, vec_capacity}
use Rattle.client_views.proofs.opening.empty_seats.Given as goal

abbrev pub invariant-loop : goal.invariant-loop
invariant-loop g l = (l.seats.items ≡ replicate l.counter []) × (vec_len l.seats ≡ l.counter) × (vec_capacity l.seats ≡ l.fn.count)
