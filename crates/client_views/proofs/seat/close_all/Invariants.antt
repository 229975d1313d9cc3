use Rattle.std.proofs.Common.{◌≡◌, ◌+◌, vec_len}
use Rattle.client_views.proofs.seat.close_all.Given as goal

abbrev pub invariant-loop : goal.invariant-loop
invariant-loop g l = l.counter + vec_len l.tellings ≡ l.count
