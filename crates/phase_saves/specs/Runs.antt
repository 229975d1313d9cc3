-- What nodes have saved at the ends of a run's phases.
use Rattle.std.specs.Prelude.{◌≡◌, ℕ, true, false, Option}
use Rattle.std.specs.List.{AllZip}
use Rattle.disk_model.specs.declared.disk.Disk.{Ghosts}
use Rattle.dpc_model.specs.Actors.{role_of}
use Rattle.dpc_model.specs.declared.actors.Role.TheVariants.{Node as IsNode}
use Rattle.dpc_model.specs.declared.scripts.Script.{Script}
use Rattle.law_saves.specs.Saves.{saved_before, saved_last}
use Rattle.node_model.specs.Mails.{Snap}
use Rattle.saved_point.specs.Points.{IsResting}
use Rattle.script_rules.specs.Checking.{IsChecked}
use Rattle.world_core.specs.Runs.{RunOf}
use Rattle.phase_saves.specs.Nodes.{Agrees, HasBegun, IsSame, Saves, SomeRose}
use Rattle.phase_saves.specs.declared.node.SavingNode.{SavingNode}
use Rattle.phase_saves.specs.declared.watch.PhaseSaves.{PhaseSaves}

module _ {D : Type 0} {g : Ghosts D} where
  -- a node that began so has this snapshot of a run of a checked script
  pub record Has (run : RunOf) (last : ℕ → Option Snap) (start now : SavingNode D g) : Type 0 where
    pub rests : IsResting start.point → IsResting now.point
    pub saved :
        (script : Script) (r : ℕ) → IsChecked script → script.plan ≡ run.plan → role_of run.plan now.actor ≡ IsNode now.frag r →
        HasBegun start → Agrees run.plan r now (last now.actor)

  -- what it saved at the ends of the phases before the present one
  abbrev pub IsUpToDate : RunOf → SavingNode D g → SavingNode D g → Type 0
  IsUpToDate run start now = Has run (saved_before run.plan run.events) start now

  -- and at the end of the last one
  abbrev pub IsDone : RunOf → SavingNode D g → SavingNode D g → Type 0
  IsDone run start now = Has run (saved_last run.plan run.events) start now

  -- What stays true of nodes that began so: they are the same, and a failure is noted where a disk failed.
  pub record HasStayed (start now : PhaseSaves D g) : Type 0 where
    pub same : AllZip IsSame start.nodes.items now.nodes.items
    pub rose : start.failed ≡ false → now.failed ≡ true → SomeRose start.nodes.items now.nodes.items

  -- What was made of a run by nodes that began so, where no disk failed.
  abbrev pub HasSeen : PhaseSaves D g → RunOf → PhaseSaves D g → Type 0
  HasSeen start run now = now.failed ≡ false → AllZip (IsUpToDate run) start.nodes.items now.nodes.items

  -- and at the run's end
  abbrev pub HasDone : PhaseSaves D g → RunOf → PhaseSaves D g → Type 0
  HasDone start run now = now.failed ≡ false → AllZip (IsDone run) start.nodes.items now.nodes.items

  -- each node saved what it could save now, where no disk failed
  abbrev pub HaveSaved : RunOf → PhaseSaves D g → PhaseSaves D g → Type 0
  HaveSaved run old new = new.failed ≡ false → AllZip (Saves run) old.nodes.items new.nodes.items
