use Rattle.std.proofs.Common.{◌≡◌, ◌*◌, ◌++◌, map, length, drop}
use Rattle.std.specs.Vec.Iter.{into_iter_items}
use Rattle.fragment_mill.specs.Mills.{new_stage}
use Rattle.fragment_mill.specs.States.{fault_from, resumed_stages}
use Rattle.fragment_mill.proofs.states.resumed_stages.Given as goal

abbrev pub invariant-loop-part : goal.invariant-loop-part
invariant-loop-part l = record {
  fault : fault_from (l.next * l.width) (length l.stages.items) (drop (length l.stages.items) l.ops) (into_iter_items l.part-iterator) ≡ fault_from (l.next * l.width) 0 l.ops l.fn.parts;
  made : l.stages.items ++ resumed_stages l.next (map (new_stage l.width) (drop (length l.stages.items) l.ops)) (into_iter_items l.part-iterator) ≡ resumed_stages l.next (map (new_stage l.width) l.ops) l.fn.parts;
}
