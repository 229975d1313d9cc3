-- Who has all seats lends each to a thread, and has all again.
use Rattle.std.proofs.Common.{◌≡◌, ◌∙◌}
use denote.Exit.{no}
use denote.Param.{param}
use denote.Param.Send.{param_send, param_sync, arg_send, arg_sync}
use Rattle.node_threads.specs.contracts.pooling.TrueWork as TrueWork
use Rattle.mill_pool.proofs.Staying.{each_seat, all_stay}
use Rattle.node_threads.proofs.Sending.{hall_sends}
use Rattle.node_threads.proofs.PoolSending.{its_pool_syncs, its_seats_send}
use Rattle.node_threads.proofs.pooled.serve_all.Goals as goal

pub at_seats-requires-send-H : goal.at_seats-requires-send-H
at_seats-requires-send-H g c κs within = param_send 0 _ (arg_send _ no _ (hall_sends (param 0 g.row.N) g.N.RunName g.N.Ledger))

pub at_seats-requires-sync-P : goal.at_seats-requires-sync-P
at_seats-requires-sync-P g c κs within = param_sync 1 _ (arg_sync _ no _ (its_pool_syncs _ _))

pub at_seats-requires-send-T : goal.at_seats-requires-send-T
at_seats-requires-send-T g c κs within = param_send 2 _ (arg_send _ no _ (its_seats_send (TrueWork.the_row (param 0 g.row.N)) _))

pub at_seats-requires-after_bounds : goal.at_seats-requires-after_bounds
at_seats-requires-after_bounds g c κs within = λ i d h. (each_seat c.args.pool.now c.args.seats.now c.requires.seats i d h, c.requires.parts)

pub clear_by_first-requires-clause-seats : goal.clear_by_first-requires-clause-seats
clear_by_first-requires-clause-seats g c =
    each_seat c.args.pool.now c.at_seats.new.seats (all_stay c.args.pool.now c.args.seats.now c.at_seats.new.seats c.at_seats.ensures.long c.requires.seats c.at_seats.ensures.each).0

pub returns-clause-seats : goal.returns-clause-seats
returns-clause-seats g c =
    let served = all_stay c.args.pool.now c.args.seats.now c.at_seats.new.seats c.at_seats.ensures.long c.requires.seats c.at_seats.ensures.each in
    (all_stay c.args.pool.now c.at_seats.new.seats c.clear_by_first.new.seats c.clear_by_first.ensures.long served.0 c.clear_by_first.ensures.each).0

pub returns-clause-numbers : goal.returns-clause-numbers
returns-clause-numbers g c =
    let served = all_stay c.args.pool.now c.args.seats.now c.at_seats.new.seats c.at_seats.ensures.long c.requires.seats c.at_seats.ensures.each in
    (all_stay c.args.pool.now c.at_seats.new.seats c.clear_by_first.new.seats c.clear_by_first.ensures.long served.0 c.clear_by_first.ensures.each).1 ∙ served.1
