use Rattle.std.proofs.Common.{◌≡◌, false}
use Rattle.trial_world.proofs.handing.the_node_of_an_order_came_back.Given as goal

abbrev pub invariant-loop-now : goal.invariant-loop-now
invariant-loop-now g l = l.world.spent ≡ false
