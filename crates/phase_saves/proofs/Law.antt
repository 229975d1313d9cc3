-- What nodes of checked scripts hand out can be saved.
use Rattle.std.proofs.Common.{◌≡◌, ℕ, ◌<◌, ◌^◌, false, List, Some, length}
use Rattle.dpc_model.specs.Actors.{role_of}
use Rattle.dpc_model.specs.declared.actors.Role.TheVariants.{Node as IsNode}
use Rattle.dpc_model.specs.declared.messages.Event.{Event}
use Rattle.dpc_model.specs.declared.scripts.Script.{Script}
use Rattle.fragment_mill.specs.Mills.{MillState}
use Rattle.law_saves.specs.Typed.{IsTyped}
use Rattle.law_saves.proofs.Whole.{hands-out}
use Rattle.node_model.specs.Nodes.{PlainNode, spec_of}
use Rattle.node_model.specs.NodeSteps.{snapshot}
use Rattle.node_model.specs.Stands.{SnapValue}
use Rattle.pipeline.specs.Recovery.{StandsForSnapshot}
use Rattle.script_rules.proofs.SaysItself.{checked_has_facts}
use Rattle.script_rules.specs.Checking.{IsChecked}
use Rattle.snapshot_form.specs.Bytes.{snapshot_bytes}
use Rattle.snapshot_form.specs.Savable.{IsSavable}
use Rattle.world_model.specs.Worlds.{home_of, slot_of, run}

pub can-be-saved : (script : Script) (events : List Event) (a f r : ℕ) (p : PlainNode) (v : SnapValue MillState) → IsChecked script
    → role_of script.plan a ≡ IsNode f r → (slot_of (run script.plan events) a).node ≡ Some p → p.recovering ≡ false
    → StandsForSnapshot (spec_of (home_of script.plan (f, r))).ops script.plan.width v (snapshot (home_of script.plan (f, r)) p)
    → IsTyped v → length (snapshot_bytes v) < 2 ^ 32 → IsSavable script.plan f v
can-be-saved script events a f r p v checked = hands-out script events a f r p v checked (checked_has_facts script checked)
