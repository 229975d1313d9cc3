-- What a node that saves has of its snapshots.
use Rattle.std.specs.Prelude.{◌≡◌, ◌⊎◌, ◌<◌, ◌≤◌, ℕ, ◌+◌, List, [], ◌∷◌, length, Option, Some, None}
use Rattle.disk_model.specs.declared.disk.Disk.{Ghosts}
use Rattle.dpc_model.specs.Actors.{role_of}
use Rattle.dpc_model.specs.declared.actors.Role.TheVariants.{Node as IsNode}
use Rattle.dpc_model.specs.declared.plans.Plan.{Plan}
use Rattle.dpc_model.specs.declared.scripts.Script.{Script}
use Rattle.fragment_mill.specs.Mills.{MillState}
use Rattle.law_saves.specs.Saves.{snap_at, later}
use Rattle.node_model.specs.Mails.{Snap}
use Rattle.node_model.specs.Nodes.{spec_of}
use Rattle.node_model.specs.Stands.{SnapValue}
use Rattle.pipeline.specs.Recovery.{StandsForSnapshot}
use Rattle.saved_point.specs.Points.{NoPoint, Point, disk_in, faults_in, room_in, kept_in, IsResting}
use Rattle.script_rules.specs.Checking.{IsChecked}
use Rattle.snapshot_form.specs.Bytes.{snapshot_bytes}
use Rattle.world_core.specs.Runs.{RunOf, world_of}
use Rattle.world_model.specs.Worlds.{home_of}
use Rattle.phase_saves.specs.declared.kept.LastSave.{LastSave}
use Rattle.phase_saves.specs.declared.kept.LastSave.TheVariants.{Never, Full, Kept}
use Rattle.phase_saves.specs.declared.node.SavingNode.{SavingNode}

module _ {D : Type 0} {g : Ghosts D} where
  -- how its last save, of this snapshot, went
  abbrev pub Went : Plan → SavingNode D g → SnapValue MillState → LastSave → Type 0
  Went plan n v Never = ⊥
  Went plan n v Full = room_in n.point < length (snapshot_bytes v) + 32
  Went plan n v Kept = (length (snapshot_bytes v) + 32 ≤ room_in n.point) × (kept_in plan n.frag n.point ≡ Point v)

  -- a snapshot of code stands for the plain one, and its save went as the node says
  pub record HasSaved (plan : Plan) (r : ℕ) (n : SavingNode D g) (s : Snap) : Type 0 where
    pub snapshot : SnapValue MillState
    pub stands : StandsForSnapshot (spec_of (home_of plan (n.frag, r))).ops plan.width snapshot s
    pub went : Went plan n snapshot n.last

  -- it never saved, and keeps nothing
  pub record HasNothing (plan : Plan) (n : SavingNode D g) : Type 0 where
    pub last : n.last ≡ Never
    pub kept : kept_in plan n.frag n.point ≡ NoPoint

  -- it rests, and nothing was saved
  pub record HasBegun (n : SavingNode D g) : Type 0 where
    pub rests : IsResting n.point
    pub nothing : (plan : Plan) → HasNothing plan n

  -- it has what it could save last, the replica of that number
  abbrev pub Agrees : Plan → ℕ → SavingNode D g → Option Snap → Type 0
  Agrees plan r n None = HasNothing plan n
  Agrees plan r n (Some s) = HasSaved plan r n s

  -- the same node, with a disk of the same size; one that kept to the model still does
  pub record IsSame (old new : SavingNode D g) : Type 0 where
    pub actor : new.actor ≡ old.actor
    pub frag : new.frag ≡ old.frag
    pub room : room_in new.point ≡ room_in old.point
    pub extent : g.extent (disk_in new.point) ≡ g.extent (disk_in old.point)
    pub faults : faults_in old.point ≤ faults_in new.point
    pub honest : g.is_honest (disk_in old.point) → g.is_honest (disk_in new.point)

  -- it saved what it can save now, at a checked script of the run's plan
  pub record Saves (run : RunOf) (old new : SavingNode D g) : Type 0 where
    pub rests : IsResting old.point → IsResting new.point
    pub saved :
        (script : Script) (r : ℕ) (last : Option Snap) → IsChecked script → script.plan ≡ run.plan → role_of run.plan old.actor ≡ IsNode old.frag r →
        IsResting old.point → Agrees run.plan r old last → Agrees run.plan r new (later last (snap_at (world_of run) old.actor))

  -- some disk failed since
  abbrev pub SomeRose : List (SavingNode D g) → List (SavingNode D g) → Type 0
  SomeRose [] news = ⊥
  SomeRose (old ∷ olds) [] = ⊥
  SomeRose (old ∷ olds) (new ∷ news) = (faults_in old.point < faults_in new.point) ⊎ SomeRose olds news
