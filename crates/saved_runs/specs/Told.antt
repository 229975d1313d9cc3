-- What is told of what nodes saved.
use Rattle.std.specs.Prelude.{◌≡◌, ◌⊎◌, ◌<◌, ◌≤◌, ℕ, ◌+◌, ◌-◌, List, [], ◌∷◌, length, Option, Some, None}
use Rattle.disk_model.specs.Disk.{Image}
use Rattle.dpc_model.specs.Actors.{nodes_of}
use Rattle.dpc_model.specs.declared.messages.Event.{Event}
use Rattle.dpc_model.specs.declared.plans.Plan.{Plan}
use Rattle.fragment_mill.specs.Mills.{MillState}
use Rattle.law_saves.specs.Saves.{saved_last}
use Rattle.node_model.specs.Mails.{Snap}
use Rattle.node_model.specs.Nodes.{spec_of}
use Rattle.node_model.specs.Stands.{SnapValue, snap_output}
use Rattle.pipeline.specs.Recovery.{StandsForSnapshot}
use Rattle.saved_point.specs.Points.{NoPoint, Point as Keeps, point_at}
use Rattle.snapshot_form.specs.Bytes.{snapshot_bytes}
use Rattle.world_model.specs.Worlds.{home_of}
use Rattle.saved_runs.specs.declared.saved.Saved.{Saved}
use Rattle.saved_runs.specs.declared.saved.Saved.TheVariants.{Never, Full, Point}

-- how many tuples of its output a snapshot keeps
abbrev pub kept_count : Plan → ℕ × ℕ → Snap → ℕ
kept_count plan n s = length (snap_output (home_of plan n) s) - s.base

-- a snapshot of code that stands for the last one: it needs more bytes than a slot has, or has room and is kept
pub record IsLast (plan : Plan) (room : ℕ) (n : ℕ × ℕ) (s : Snap) (said : Saved) : Type 0 where
  pub snapshot : SnapValue MillState
  pub stands : StandsForSnapshot (spec_of (home_of plan n)).ops plan.width snapshot s
  pub kept : ((said ≡ Full) × (room < length (snapshot_bytes snapshot) + 32)) ⊎ ((said ≡ Point s.cursor s.base (kept_count plan n s)) × (length (snapshot_bytes snapshot) + 32 ≤ room))

-- what is told of a node that could save this last
abbrev pub IsSaid : Plan → ℕ → ℕ × ℕ → Option Snap → Saved → Type 0
IsSaid plan room n None said = said ≡ Never
IsSaid plan room n (Some s) said = IsLast plan room n s said

-- of the nodes from this actor on
abbrev pub AreSaidFrom : Plan → ℕ → List Event → ℕ → List (ℕ × ℕ) → List Saved → Type 0
AreSaidFrom plan room events a [] [] = Unit {0}
AreSaidFrom plan room events a [] (s ∷ ss) = ⊥
AreSaidFrom plan room events a (n ∷ ns) [] = ⊥
AreSaidFrom plan room events a (n ∷ ns) (s ∷ ss) = IsSaid plan room n (saved_last plan events a) s × AreSaidFrom plan room events (a + 1) ns ss

-- What is told of each node of a run.
abbrev pub AreSaid : Plan → ℕ → List Event → List Saved → Type 0
AreSaid plan room events told = AreSaidFrom plan room events (length plan.sources) (nodes_of plan) told

-- ---- and what their disks have

-- an image has what is told: nothing, or a snapshot of code that stands for the last one, where that was not too long
abbrev pub HasTold : Plan → ℕ → ℕ × ℕ → Image → Option Snap → Saved → Type 0
HasTold plan room n image None said = point_at plan n.0 room image ≡ NoPoint
HasTold plan room n image (Some s) said =
    (said ≡ Full) ⊎ ((v : SnapValue MillState) × StandsForSnapshot (spec_of (home_of plan n)).ops plan.width v s × (point_at plan n.0 room image ≡ Keeps v))

-- what is told of a node is so, and what its disk reads as
abbrev pub IsSaved : Plan → ℕ → ℕ × ℕ → Image → Option Snap → Saved → Type 0
IsSaved plan room n image last said = IsSaid plan room n last said × HasTold plan room n image last said

-- of the nodes from this actor on
abbrev pub AreSavedFrom : Plan → ℕ → List Event → ℕ → List (ℕ × ℕ) → List Image → List Saved → Type 0
AreSavedFrom plan room events a [] [] [] = Unit {0}
AreSavedFrom plan room events a [] [] (s ∷ ss) = ⊥
AreSavedFrom plan room events a [] (d ∷ ds) ss = ⊥
AreSavedFrom plan room events a (n ∷ ns) [] ss = ⊥
AreSavedFrom plan room events a (n ∷ ns) (d ∷ ds) [] = ⊥
AreSavedFrom plan room events a (n ∷ ns) (d ∷ ds) (s ∷ ss) = IsSaved plan room n d (saved_last plan events a) s × AreSavedFrom plan room events (a + 1) ns ds ss

-- What is told of each node of a run, and what its disk reads as.
abbrev pub AreSaved : Plan → ℕ → List Event → List Image → List Saved → Type 0
AreSaved plan room events disks told = AreSavedFrom plan room events (length plan.sources) (nodes_of plan) disks told
