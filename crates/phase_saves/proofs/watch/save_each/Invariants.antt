use Rattle.phase_saves.specs.Nodes.{IsSame, Saves}
use Rattle.phase_saves.proofs.Listing.{GoneTo}
use Rattle.phase_saves.proofs.watch.save_each.Given as goal

-- those so far have saved
abbrev pub invariant-loop-i : goal.invariant-loop-i
invariant-loop-i g l = record { same : GoneTo IsSame l.i l.fn.nodes.items l.nodes.items; saves : GoneTo (Saves l.world) l.i l.fn.nodes.items l.nodes.items }
