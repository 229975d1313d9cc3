use Rattle.std.proofs.Common.{◌≡◌, ℕ, ◌<◌, map, take, get_or}
use Rattle.fragment_mill.specs.States.{part_of, SuitsItself}
use Rattle.fragment_mill.specs.declared.mill.Stage.{Stage}
use Rattle.fragment_mill.proofs.states.all_parts.Given as goal

abbrev pub invariant-loop-stage : goal.invariant-loop-stage
invariant-loop-stage l = record {
  parts : l.parts.items ≡ map (λ (s : Stage). part_of s.operator) (take l.stage-index l.stages);
  suit : (j : ℕ) (d : Stage) → j < l.stage-index → SuitsItself (get_or l.stages j d).operator;
}
