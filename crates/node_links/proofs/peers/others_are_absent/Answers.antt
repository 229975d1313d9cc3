use Rattle.std.proofs.Common.{◌≡◌, ◌==◌, ◌||◌, true, false, sym, arith}
use Rattle.std.proofs.lemmas.Grind.{common_steps}
use Rattle.dpc_lists.specs.Lists.{nth}
use Rattle.dpc_model.specs.Replicas.{new_watch, is_absent}
use Rattle.node_links.proofs.Looping.{one-passes, one-fails}
use Rattle.node_links.proofs.peers.others_are_absent.Goals.{else-r-me-via-then-r-me+else-not-is_absent, else-r-me-via-else-r-me}
use Rattle.node_links.proofs.peers.others_are_absent.Goals as goal

pub returns-then-not-is_absent : goal.returns-then-not-is_absent
returns-then-not-is_absent c =
    let fails : ((c.loop-r.r == c.args.me) || is_absent (nth new_watch c.args.watches.now c.loop-r.r)) ≡ false = grind (arith, common_steps) in
    sym (one-fails is_absent c.args.me c.loop-r.r c.args.watches.now (omega arith) fails c.loop-r.invariant)

pub loop-r-preserved : goal.loop-r-preserved
loop-r-preserved c =
    let passes : ((c.loop-r.r == c.args.me) || is_absent (nth new_watch c.args.watches.now c.loop-r.r)) ≡ true =
    elim c.else-r-me.branch [
      | else-r-me-via-then-r-me+else-not-is_absent w ↦ grind (arith, common_steps)
      | else-r-me-via-else-r-me w ↦ grind (arith, common_steps)
    ] in
    one-passes is_absent c.args.me c.loop-r.r c.args.watches.now (omega arith) passes c.loop-r.invariant
