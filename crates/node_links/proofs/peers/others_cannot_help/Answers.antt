use Rattle.std.proofs.Common.{◌≡◌, ◌==◌, ◌||◌, true, false, sym, arith, Bool}
use Rattle.std.proofs.lemmas.Grind.{common_steps}
use Rattle.dpc_lists.specs.Lists.{nth}
use Rattle.dpc_model.specs.Replicas.{Watch, new_watch, is_absent, says_recovering}
use Rattle.node_links.proofs.Looping.{one-passes, one-fails}
use Rattle.node_links.proofs.peers.others_cannot_help.Goals.{else-r-me-via-then-r-me+then-not-is_absent+else-not-says_recovering, else-r-me-via-then-r-me+else-not-is_absent, else-r-me-via-else-r-me}
use Rattle.node_links.proofs.peers.others_cannot_help.Goals as goal

abbrev cannot_help : Watch → Bool
cannot_help w = is_absent w || says_recovering w

pub returns-then-not-says_recovering : goal.returns-then-not-says_recovering
returns-then-not-says_recovering c =
    let fails : ((c.loop-r.r == c.args.me) || cannot_help (nth new_watch c.args.watches.now c.loop-r.r)) ≡ false = grind (arith, common_steps) in
    sym (one-fails cannot_help c.args.me c.loop-r.r c.args.watches.now (omega arith) fails c.loop-r.invariant)

pub loop-r-preserved : goal.loop-r-preserved
loop-r-preserved c =
    let passes : ((c.loop-r.r == c.args.me) || cannot_help (nth new_watch c.args.watches.now c.loop-r.r)) ≡ true =
    elim c.else-r-me.branch [
      | else-r-me-via-then-r-me+then-not-is_absent+else-not-says_recovering w ↦ grind (arith, common_steps)
      | else-r-me-via-then-r-me+else-not-is_absent w ↦ grind (arith, common_steps)
      | else-r-me-via-else-r-me w ↦ grind (arith, common_steps)
    ] in
    one-passes cannot_help c.args.me c.loop-r.r c.args.watches.now (omega arith) passes c.loop-r.invariant
