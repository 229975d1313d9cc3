-- A pool and its seats may cross threads where its orders may.
use denote.RattleType.{RattleType}
use denote.Param.Send.{IsSend, IsSync, AllSend, AllSync, sendable, struct_send, struct_sync}
use denote.Builtin.{unit}
use denote.Struct.Declared.{shape}
use denote.Struct.Struct.{Struct}
use denote.Enum.Declared.{shape as cases}
use denote.Enum.Enum.{Enum}
use Rattle.std.proofs.Crossing.{crosses}
use Rattle.std.proofs.Crossing as heap
use Rattle.atomic_table.proofs.shared.Shared.TheSendSync as table
use Rattle.atomic_table.proofs.shared.Seat.TheSendSync as pass
use Rattle.atomic_table.proofs.send_lease.SendLease.TheSendSync as lease
use Rattle.std.specs.contracts.option.Option as Option
use Rattle.std.specs.contracts.alloc.Global as Global
use Rattle.std.specs.contracts.impls.GlobalAllocator.TheImpl.{ghosts}
use Rattle.atomic_table.specs.contracts.owned.Table as Table
use Rattle.crossbeam_queue.specs.contracts.array_queue.Slotted as Slotted
use Rattle.crossbeam_queue.specs.contracts.array_queue.Doing as Doing
use Rattle.crossbeam_queue.specs.contracts.array_queue.Turns as TurnsOf
use Rattle.crossbeam_queue.specs.contracts.array_queue.TurnsTableRuleOptionDoingUnit.TheImpl as Turns
use Rattle.mill_pool.specs.contracts.rule.SeatView as SeatView
use Rattle.mill_pool.specs.contracts.rule.PoolRule as PoolRule
use Rattle.mill_pool.specs.contracts.rule.PoolRuleProtocolJobSeatView.TheImpl as rule
use Rattle.mill_work.specs.contracts.order.Order as Order
use Rattle.mill_pool.specs.contracts.job.Job as Job
use Rattle.mill_pool.specs.contracts.pool.Pool as Pool
use Rattle.mill_pool.specs.contracts.seat.Seat as Seat

job-plain : (M K : RattleType) (e : _) (k : _) → IsSend (Order.the_row M) → IsSend (Struct (shape (Job.TheInside.the_type M K e k)))
job-plain M K e k o = search (o, sendable, crosses) depth 60 fits 20000

job-inside : (M K : RattleType) (e : _) (k : _) → IsSend (Order.the_row M) → IsSend (Job.TheInside.the_row M K e k)
job-inside M K e k o = let plain = job-plain M K e k o in search (plain, sendable) depth 20

job-sends : (M K : RattleType) (e : _) (k : _) → IsSend (Order.the_row M) → IsSend (Job.the_row M K e k)
job-sends M K e k o = let inside = job-inside M K e k o in search (inside, sendable) depth 20

option-cases : (X : RattleType) → IsSend X → IsSend (Enum (cases (Option.the_type X)))
option-cases X x = search (x, sendable) depth 40

option-sends : (X : RattleType) → IsSend X → IsSend (Option.the_row X)
option-sends X x = let plain = option-cases X x in search (plain, sendable) depth 20

slot-sends : (M K : RattleType) (e : _) (k : _) → IsSend (Order.the_row M) → IsSend (Option.the_row (Job.the_row M K e k))
slot-sends M K e k o = option-sends _ (job-sends M K e k o)

-- a table of slots, each of which may cross
table-fields : (S V K Q : RattleType) (g : _) → IsSend S → AllSync (shape (Table.the_type S V K Q Global.the_row g ghosts)).fields
table-fields S V K Q g s =
    (table.the_sync S V K Q g s, (search sendable depth 20, (search sendable depth 20, (lease.the_sync _ _ _ heap.send heap.frees, (lease.the_sync _ _ _ heap.send heap.frees, (heap.sync, tt))))))

-- and a queue in it
queue-fields : (S D Q : RattleType) (g : _) → IsSend S → AllSync (shape (Slotted.the_type S D Q Global.the_row g ghosts)).fields
queue-fields S D Q g s = (struct_sync (shape (Table.the_type S D unit Q Global.the_row g ghosts)) (table-fields S D unit Q g s), (search sendable depth 20, (search sendable depth 20, tt)))

pool-fields : (M K : RattleType) (e : _) (k : _) → IsSend (Order.the_row M) → AllSync (shape (Pool.the_type M K e k)).fields
pool-fields M K e k o =
    let job : RattleType = Job.the_row M K e k in
    let seen : RattleType = SeatView.the_row M e in
    let turns = Turns.ghosts job seen PoolRule.the_row (rule.ghosts M K e rule.no_dict k rule.no_dict) Turns.no_dict in (
      struct_sync (shape (Slotted.the_type (Option.the_row job) (Doing.the_row job seen) (TurnsOf.the_row PoolRule.the_row) Global.the_row turns ghosts))
          (queue-fields (Option.the_row job) (Doing.the_row job seen) (TurnsOf.the_row PoolRule.the_row) turns (slot-sends M K e k o)),
      tt,
    )

pub pool_syncs : (M K : RattleType) (e : _) (k : _) → IsSend (Order.the_row M) → IsSync (Pool.the_row M K e k)
pool_syncs M K e k o = let plain = struct_sync (shape (Pool.the_type M K e k)) (pool-fields M K e k o) in search (plain, sendable) depth 20

seat-fields : (M K : RattleType) (e : _) (k : _) → IsSend (Order.the_row M) → AllSend (shape (Seat.TheInside.the_type M K e k)).fields
seat-fields M K e k o =
    let slot = slot-sends M K e k o in (
      pass.the_send _ _ slot,
      (search (sendable) depth 20, (search (sendable, crosses) depth 40, (search (sendable, crosses) depth 40, tt))),
    )

seat-plain : (M K : RattleType) (e : _) (k : _) → IsSend (Order.the_row M) → IsSend (Struct (shape (Seat.TheInside.the_type M K e k)))
seat-plain M K e k o = struct_send (shape (Seat.TheInside.the_type M K e k)) (seat-fields M K e k o)

seat-inside : (M K : RattleType) (e : _) (k : _) → IsSend (Order.the_row M) → IsSend (Seat.TheInside.the_row M K e k)
seat-inside M K e k o = let plain = seat-plain M K e k o in search (plain, sendable) depth 20

pub seat_sends : (M K : RattleType) (e : _) (k : _) → IsSend (Order.the_row M) → IsSend (Seat.the_row M K e k)
seat_sends M K e k o = let inside = seat-inside M K e k o in search (inside, sendable) depth 20
