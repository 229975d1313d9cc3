use Rattle.std.proofs.Common.{◌≡◌, ℕ, ◌+◌, ◌≤◌, ◌<◌, length, slice_index_or}
use Rattle.client_views.proofs.Places.{Done, Waits}
use Rattle.client_views.proofs.opening.watch_also.Given as goal

abbrev pub invariant-loop-place : goal.invariant-loop-place
invariant-loop-place g l =
    (length l.lookers.items + l.place ≡ length l.fn.seats) × ((i : ℕ) (d : _) → i < length l.lookers.items → (slice_index_or l.lookers.items i d).client ≡ l.fn.client)
    × (l.fn.workers ≤ l.place) × (length l.seats ≡ length l.fn.seats) × Done l.fn.workers l.place (l.fn.client + 1) l.seats × Waits l.place l.fn.client l.seats
