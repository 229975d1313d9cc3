-- What holds of the queue of a pool and of what its seats know.
use Rattle.std.specs.Prelude.{◌≡◌, ℕ, ◌+◌, ◌-◌, ◌<◌, List, [], ◌∷◌, ◌++◌, length, sum_by}
use Rattle.std.specs.List.{flat_map}
use mathlib.Core.Option.{some}
use lib.ListN.{get_elem?}
use Rattle.mill_pool.specs.declared.job.Ticket.{Ticket}
use Rattle.mill_pool.specs.declared.rule.SeatView.{SeatView}
use Rattle.mill_pool.specs.Jobs.{JobValue, TakenOrLeft, count_of}

-- every part there is
abbrev pub every_part : ℕ
every_part = 32

module _ {M : Type 0} where
  -- what the first seat knows before another is made
  abbrev pub first_view : SeatView M
  first_view = record { number = 0; puts = 0; parts = every_part; made = 1; put = []; taken = [] }

  -- what it knows once one more seat was made
  abbrev pub maker_view : SeatView M → SeatView M
  maker_view v = record v { parts = v.parts - 1; made = v.made + 1 }

  -- what that seat knows: its number is how many views there were before it
  abbrev pub made_view : SeatView M → SeatView M
  made_view v = record { number = v.made; puts = 0; parts = 1; made = 0; put = []; taken = [] }

  -- what a seat knows once it put a job, or took one
  abbrev pub put_view : SeatView M → JobValue M → SeatView M
  put_view v x = record v { puts = v.puts + 1; put = v.put ++ x ∷ [] }

  abbrev pub taken_view : SeatView M → JobValue M → SeatView M
  taken_view v x = record v { taken = v.taken ++ x ∷ [] }

  -- what a seat knows once another's pass came to it
  abbrev pub gathered_view : SeatView M → SeatView M → SeatView M
  gathered_view v w = record v { parts = v.parts + w.parts; put = v.put ++ w.put; taken = v.taken ++ w.taken }

  -- the view of the seat whose pass that was: it has ended
  abbrev pub ended_view : SeatView M
  ended_view = record { number = 0; puts = 0; parts = 0; made = 0; put = []; taken = [] }

  -- the jobs that were put by all seats, and those that were taken
  abbrev pub all_put : List (SeatView M) → List (JobValue M)
  all_put views = flat_map (λ v. v.put) views

  abbrev pub all_taken : List (SeatView M) → List (JobValue M)
  all_taken views = flat_map (λ v. v.taken) views

-- what holds of all views at each moment
pub record AreSeats {M : Type 0} (views : List (SeatView M)) : Type 0 where
  -- every part is with one of them
  pub parts : sum_by (λ v. v.parts) views ≡ every_part
  -- one that has no part has no jobs
  pub ended : (place : ℕ) (v : SeatView M) → get_elem? views place ≡ some v → v.parts ≡ 0 → (v.put ≡ []) × (v.taken ≡ [])
  -- the number of any other is its place, so no two have the same, and each is below the number of views
  pub numbered : (place : ℕ) (v : SeatView M) → get_elem? views place ≡ some v → 0 < v.parts → v.number ≡ place
  -- the first one alone may make seats, and knows how many views there are
  pub makes : (place : ℕ) (v : SeatView M) → get_elem? views place ≡ some v → 0 < v.made → (v.made ≡ length views) × (place ≡ 0) × (0 < v.parts)

-- what holds of a pool at each moment: of what its queue holds, oldest first, and of what its seats know
pub record IsPool {M : Type 0} (items : List (JobValue M)) (views : List (SeatView M)) : Type 0 where
  pub seats : AreSeats views
  -- what was put was taken or is in the queue
  pub jobs : TakenOrLeft (all_put views) (all_taken views) items
  -- a ticket is of a seat, and its number is below what that seat put, as long as that hasn't ended
  pub seat : (t : Ticket) → 0 < count_of t (all_put views) → t.seat < length views
  pub number : (t : Ticket) → 0 < count_of t (all_put views) → (v : SeatView M) → get_elem? views t.seat ≡ some v → 0 < v.parts → t.number < v.puts

-- at one moment the queue held these items, and a seat knew this
abbrev pub SawQueue : {M : Type 0} → SeatView M → List (JobValue M) → Type 0
SawQueue {M} v items = (views : List (SeatView M)) × (place : ℕ) × IsPool items views × (get_elem? views place ≡ some v)
