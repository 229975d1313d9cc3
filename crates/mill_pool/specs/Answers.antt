-- What the calls of a pool answer.
use Rattle.std.specs.Prelude.{◌≡◌, ℕ, List, Vec}
use Rattle.std.specs.Global.{Global}
use Rattle.crossbeam_queue.specs.Fifo.{Held}
use Rattle.crossbeam_queue.specs.Passes.{IsPassOf, ruled_capacity}
use Rattle.mill_work.specs.Milling.{OrderValue}
use Rattle.mill_pool.specs.declared.account.Account.{Account}
use Rattle.mill_pool.specs.declared.pool.Pool.{Pool}
use Rattle.mill_pool.specs.declared.pool.PutFault.{PutFault}
use Rattle.mill_pool.specs.declared.pool.PutFault.TheVariants as put
use Rattle.mill_pool.specs.declared.pool.CloseFault.{CloseFault}
use Rattle.mill_pool.specs.declared.pool.CloseFault.TheVariants as close
use Rattle.mill_pool.specs.declared.rule.SeatView.{SeatView}
use Rattle.mill_pool.specs.Jobs.{JobValue, TakenOrLeft, tickets}
use Rattle.mill_pool.specs.Rule.{SawQueue}
use Rattle.mill_pool.specs.Seats.{SeatOf, AreAllOf, known}

-- how many jobs a pool has room for
abbrev pub room_of : {M K : Type 0} → Pool M K → ℕ
room_of pool = ruled_capacity pool.queue

-- a seat of a pool
abbrev pub IsSeatOf : {M K : Type 0} → Pool M K → SeatOf M → Type 0
IsSeatOf pool seat = IsPassOf pool.queue seat

-- all seats of a pool
abbrev pub AreSeatsOf : {M K : Type 0} → Pool M K → List (SeatOf M) → Type 0
AreSeatsOf pool seats = AreAllOf pool.queue seats

-- a seat of the pool with the number and the parts that it had, whatever was put or taken there
abbrev pub IsSameSeat : {M K : Type 0} → Pool M K → SeatOf M → SeatOf M → Type 0
IsSameSeat pool seat after = IsSeatOf pool after × ((known after).number ≡ (known seat).number) × ((known after).parts ≡ (known seat).parts)

-- an order that wasn't put comes back; where it is told that the queue was full, it held as many jobs as it has room for
abbrev pub IsRefused : {M : Type 0} → ℕ → SeatView M → OrderValue M → PutFault M → Type 0
IsRefused room v order (put.NoMemory back) = back ≡ order
IsRefused room v order (put.Full back) = (back ≡ order) × Held room (SawQueue v)

-- the account of jobs that were put and taken: some are left, and the tickets are theirs
pub record IsAccount {M : Type 0} (put taken : List (JobValue M)) (account : Account) : Type 0 where
  pub left : List (JobValue M)
  pub jobs : TakenOrLeft put taken left
  pub put_tickets : account.put ≡ tickets put
  pub taken_tickets : account.taken ≡ tickets taken
  pub left_tickets : account.left ≡ tickets left

-- a pool that wasn't closed comes back with its seats
abbrev pub IsHandedBack : {M K : Type 0} → Pool M K → Vec (SeatOf M) Global → CloseFault M K → Type 0
IsHandedBack pool seats (close.NoMemory p s) = (p ≡ pool) × (s ≡ seats)
