use Rattle.dpc_model.specs.Replicas.{is_absent}
use Rattle.node_links.proofs.Looping.{AllPassIf}
use Rattle.node_links.proofs.peers.others_are_absent.Given as goal

abbrev pub invariant-loop-r : goal.invariant-loop-r
invariant-loop-r l = AllPassIf is_absent l.me l.r l.watches
