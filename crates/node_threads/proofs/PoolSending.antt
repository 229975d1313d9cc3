-- A run's pool and its seats may cross threads.
use denote.RattleType.{RattleType}
use denote.Param.Send.{IsSend, IsSync, sendable}
use Rattle.std.proofs.Crossing.{crosses}
use Rattle.std.proofs.MapsCrossing as maps
use Rattle.fragment_mill.specs.contracts.mill.FragMill as FragMill
use Rattle.fragment_mill.specs.contracts.mill.FragMillEngine as engine
use Rattle.mill_work.specs.contracts.order.Order as Order
use Rattle.mill_pool.specs.contracts.pool.Pool as Pool
use Rattle.mill_pool.specs.contracts.seat.Seat as Seat
use Rattle.mill_pool.proofs.Crossing.{pool_syncs, seat_sends}
use Rattle.node_threads.proofs.Sending.{mill-sends}

order-sends : IsSend (Order.the_row FragMill.the_row)
order-sends = search (mill-sends, sendable, crosses, maps.crosses) depth 60 fits 20000

pub its_pool_syncs : (K : RattleType) (k : _) → IsSync (Pool.the_row FragMill.the_row K engine.TheImpl.ghosts k)
its_pool_syncs K k = pool_syncs FragMill.the_row K engine.TheImpl.ghosts k order-sends

pub its_seats_send : (K : RattleType) (k : _) → IsSend (Seat.the_row FragMill.the_row K engine.TheImpl.ghosts k)
its_seats_send K k = seat_sends FragMill.the_row K engine.TheImpl.ghosts k order-sends
