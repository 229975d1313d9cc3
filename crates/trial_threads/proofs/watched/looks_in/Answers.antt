-- The run behind the lock may cross threads.
use denote.Exit.{no}
use denote.Param.{param}
use denote.Param.Send.{param_send, arg_send}
use Rattle.node_threads.proofs.Sending.{hall_sends}
use Rattle.trial_threads.proofs.watched.looks_in.Goals as goal

pub at_seats-requires-send-H : goal.at_seats-requires-send-H
at_seats-requires-send-H g c κs within = param_send 0 _ (arg_send _ no _ (hall_sends (param 0 g.row.N) g.N.RunName g.N.Ledger))
