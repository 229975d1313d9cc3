-- Disks that go out to nodes, and come back.
use Rattle.std.specs.Prelude.{◌≡◌, ◌≤◌, ◌+◌, ℕ, List, [], ◌∷◌, ◌++◌}
use Rattle.disk_model.specs.declared.disk.Disk.{Ghosts}
use Rattle.saved_point.specs.Points.{disk_in}
use Rattle.phase_saves.specs.declared.node.SavingNode.{SavingNode}

-- what came back of a disk: it is as large, keeps to the model where it did, and its count of faults did not fall
pub record IsBack {D : Type 0} (g : Ghosts D) (old new : D) : Type 0 where
  pub extent : g.extent new ≡ g.extent old
  pub honest : g.is_honest old → g.is_honest new
  pub faults : g.faults old ≤ g.faults new

-- how often disks have failed, each so often
abbrev pub total_faults : {D : Type 0} → (D → ℕ) → List D → ℕ
total_faults faults [] = 0
total_faults faults (d ∷ ds) = faults d + total_faults faults ds

module _ {D : Type 0} {g : Ghosts D} where
  -- the disks of nodes, the last node's first, in front of others
  abbrev pub behind : List (SavingNode D g) → List D → List D
  behind [] rest = rest
  behind (n ∷ ns) rest = behind ns (disk_in n.point ∷ rest)

  -- all disks in order: those that are here, and those of nodes
  abbrev pub all_disks : List D → List (SavingNode D g) → List D
  all_disks ds ns = ds ++ behind ns []
