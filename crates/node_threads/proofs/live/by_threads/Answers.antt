-- What stands behind the lock may go from thread to thread.
use denote.Exit.{no}
use denote.Param.{param}
use denote.Param.Send.{param_send, arg_send}
use Rattle.node_threads.proofs.Sending.{hall_sends}
use Rattle.node_threads.proofs.live.by_threads.Goals as goal

pub in_threads-requires-send-H : goal.in_threads-requires-send-H
in_threads-requires-send-H g c κs within = param_send 0 _ (arg_send _ no _ (hall_sends (param 0 g.row.N) g.N.RunName g.N.Ledger))
