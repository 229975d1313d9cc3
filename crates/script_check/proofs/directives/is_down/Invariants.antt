use Rattle.std.proofs.Common.{◌≡◌, ◌≤◌, false, take, length}
use Rattle.std.specs.Prelude.{fold, flat_map}
use Rattle.dpc_model.specs.declared.scripts.Phase.{Phase}
use Rattle.script_rules.specs.Reasons.{down_after}
use Rattle.script_check.specs.Locals.{is_down}
use Rattle.script_check.proofs.directives.is_down.Given as goal

-- those behind change nothing
abbrev pub invariant-loop-left : goal.invariant-loop-left
invariant-loop-left l = record {
  within : l.left ≤ length l.phases;
  kept : is_down l.phases l.directives l.node ≡ fold (down_after l.node) false (flat_map (λ (p : Phase). p.directives) (take l.left l.phases));
}

abbrev pub decreases-loop-left : goal.decreases-loop-left
decreases-loop-left l = l.left
