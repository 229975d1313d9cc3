use Rattle.std.proofs.Common.{◌≡◌, ◌≤◌, Bool, take, length}
use Rattle.std.specs.Prelude.{fold}
use Rattle.script_rules.specs.Reasons.{down_after}
use Rattle.script_check.proofs.directives.last_change.Given as goal

-- those behind change nothing
abbrev pub invariant-loop-left : goal.invariant-loop-left
invariant-loop-left l = record {
  within : l.left ≤ length l.directives;
  kept : (down : Bool) → fold (down_after l.node) down l.directives ≡ fold (down_after l.node) down (take l.left l.directives);
}

abbrev pub decreases-loop-left : goal.decreases-loop-left
decreases-loop-left l = l.left
