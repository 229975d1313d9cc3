use Rattle.std.proofs.Common.{◌||◌}
use Rattle.dpc_model.specs.Replicas.{is_absent, says_recovering}
use Rattle.node_links.proofs.Looping.{AllPassIf}
use Rattle.node_links.proofs.peers.others_cannot_help.Given as goal

abbrev pub invariant-loop-r : goal.invariant-loop-r
invariant-loop-r l = AllPassIf (λ w. is_absent w || says_recovering w) l.me l.r l.watches
