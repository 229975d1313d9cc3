use Rattle.std.proofs.Common.{◌≡◌, map, take}
use Rattle.fragment_mill.specs.Mills.{new_stage}
use Rattle.fragment_mill.proofs.mill.new_stages.Given as goal

abbrev pub invariant-loop-op : goal.invariant-loop-op
invariant-loop-op l = l.stages.items ≡ map (new_stage l.width) (take l.op-index l.ops)
