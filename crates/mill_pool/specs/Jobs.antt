-- Jobs as contracts see them, and their tickets.
use Rattle.std.specs.Prelude.{ℕ, ◌≤◌, Bool, not, ◌==◌, ◌&&◌, if◌then◌else◌, List, ◌++◌, map, filter, sum_by}
use Rattle.std.specs.List.{list_any}
use Rattle.std.specs.List.Sorted.{IsPermutation}
use Rattle.mill_work.specs.Milling.{OrderValue}
use Rattle.mill_pool.specs.declared.job.Ticket.{Ticket}

-- the ticket, and the order that was put under it
pub record JobValue (M : Type 0) : Type 0 where
  pub ticket : Ticket
  pub order : OrderValue M

-- whether two tickets are the same
abbrev pub is_ticket : Ticket → Ticket → Bool
is_ticket t u = (t.seat == u.seat) && (t.number == u.number)

-- the tickets that stand in the first list and not in the second
abbrev pub left_of : List Ticket → List Ticket → List Ticket
left_of put taken = filter (λ t. not (list_any (is_ticket t) taken)) put

module _ {M : Type 0} where
  -- the tickets of jobs
  abbrev pub tickets : List (JobValue M) → List Ticket
  tickets jobs = map (λ j. j.ticket) jobs

  -- how many jobs have this ticket
  abbrev pub count_of : Ticket → List (JobValue M) → ℕ
  count_of t jobs = sum_by (λ j. if is_ticket t j.ticket then 1 else 0) jobs

-- each job that was put, all under tickets of their own, was taken or is left, once and with the same order, and no other job was
pub record TakenOrLeft {M : Type 0} (put taken left : List (JobValue M)) : Type 0 where
  pub once : (t : Ticket) → count_of t put ≤ 1
  pub whole : IsPermutation put (taken ++ left)
