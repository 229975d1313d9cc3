-- The seats of a pool.
use Rattle.std.specs.Prelude.{◌≡◌, ℕ, Option, ◌<◌, List, [], ◌+◌, ◌-◌, length, map, sum_by}
use Rattle.std.specs.List.{flat_map}
use mathlib.Core.Option.{some}
use lib.ListN.{get_elem?}
use Rattle.crossbeam_queue.specs.declared.array_queue.Doing.{Doing}
use Rattle.crossbeam_queue.specs.declared.array_queue.Slotted.{Slotted}
use Rattle.crossbeam_queue.specs.Passes.{Pass, view, IsPassOf}
use Rattle.mill_pool.specs.declared.job.Ticket.{Ticket}
use Rattle.mill_pool.specs.declared.rule.SeatView.{SeatView}
use Rattle.mill_pool.specs.Jobs.{JobValue, tickets}
use Rattle.mill_pool.specs.Rule.{every_part}

-- what contracts see of a seat, and of a queue
abbrev pub SeatOf : Type 0 → Type 0
SeatOf M = Pass (JobValue M) (SeatView M)

abbrev pub QueueOf : Type 0 → Type 0 → Type 0 → Type 0
QueueOf M Q A = Slotted (Option (JobValue M)) (Doing (JobValue M) (SeatView M)) Q A

module _ {M : Type 0} where
  -- what a seat knows
  abbrev pub known : SeatOf M → SeatView M
  known s = view s

  -- the ticket of its next put
  abbrev pub next_ticket : SeatView M → Ticket
  next_ticket v = record { seat = v.number; number = v.puts }

  -- a seat as it is made: it has a number, and nothing was put or taken
  abbrev pub IsFresh : ℕ → SeatView M → Type 0
  IsFresh number v = (v.number ≡ number) × (v.puts ≡ 0) × (v.put ≡ []) × (v.taken ≡ [])

  -- the seats as they are made, numbered from 0
  abbrev pub AreFresh : List (SeatOf M) → Type 0
  AreFresh seats = (k : ℕ) (s : SeatOf M) → get_elem? seats k ≡ some s → IsFresh k (known s)

  -- the jobs that seats put, and those that they took, one seat behind another
  abbrev pub put_by : List (SeatOf M) → List (JobValue M)
  put_by seats = flat_map (λ s. (known s).put) seats

  abbrev pub taken_by : List (SeatOf M) → List (JobValue M)
  taken_by seats = flat_map (λ s. (known s).taken) seats

  -- their numbers
  abbrev pub numbers_of : List (SeatOf M) → List ℕ
  numbers_of seats = map (λ s. (known s).number) seats

  -- how many parts seats have
  abbrev pub parts_of : List (SeatOf M) → ℕ
  parts_of seats = sum_by (λ s. (known s).parts) seats

  -- what the first seat knows where there are n
  abbrev pub maker_at : ℕ → SeatView M
  maker_at n = record { number = 0; puts = 0; parts = every_part + 1 - n; made = n; put = []; taken = [] }

-- what a seat holds is what its pass knows
pub record IsSeat {M : Type 0} (number : ℕ) (put taken : List Ticket) (v : SeatView M) : Type 0 where
  pub numbered : v.number ≡ number
  pub live : 0 < v.parts
  pub counted : v.puts ≡ length put
  pub puts : tickets v.put ≡ put
  pub takes : tickets v.taken ≡ taken

module _ {M Q A : Type 0} where
  -- seats of one pool
  abbrev pub AreOf : QueueOf M Q A → List (SeatOf M) → Type 0
  AreOf queue seats = (k : ℕ) (s : SeatOf M) → get_elem? seats k ≡ some s → IsPassOf queue s

  -- all its seats: every part is with them
  abbrev pub AreAllOf : QueueOf M Q A → List (SeatOf M) → Type 0
  AreAllOf queue seats = AreOf queue seats × (parts_of seats ≡ every_part)

  -- the seats that the first one made, each with one part
  abbrev pub AreMade : QueueOf M Q A → List (SeatOf M) → Type 0
  AreMade queue seats = (k : ℕ) (s : SeatOf M) → get_elem? seats k ≡ some s → IsPassOf queue s × IsFresh (k + 1) (known s) × ((known s).parts ≡ 1)
