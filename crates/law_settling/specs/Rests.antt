-- Actors that do not recover: at a point, and from some phase of a journal on.
use Rattle.std.specs.Prelude.{◌≡◌, ℕ, ◌<◌, false, List, ◌++◌, Some}
use Rattle.dpc_model.specs.Actors.{role_of}
use Rattle.dpc_model.specs.declared.actors.Role.TheVariants.{Node as IsNode}
use Rattle.dpc_model.specs.declared.messages.Event.{Event}
use Rattle.dpc_model.specs.declared.scripts.Script.{Script}
use Rattle.node_model.specs.Nodes.{PlainNode}
use Rattle.world_model.specs.Worlds.{World, slot_of, run}
use Rattle.law_schedules.specs.Journals.{phases_in}

-- where the actor is a node that is up, it does not recover
abbrev pub RestsAt : World → ℕ → Type 0
RestsAt w a = (f r : ℕ) (n : PlainNode) → role_of w.plan a ≡ IsNode f r → (slot_of w a).node ≡ Some n → n.recovering ≡ false

-- so it is at each point of the journal past the phase with this number
abbrev pub RestsPast : Script → List Event → ℕ → ℕ → Type 0
RestsPast script events a floor = (done more : List Event) → events ≡ done ++ more → floor < phases_in done → RestsAt (run script.plan done) a

-- and so of each replica of the fragment
abbrev pub AllRestPast : Script → List Event → ℕ → ℕ → Type 0
AllRestPast script events f floor = (a r : ℕ) → role_of script.plan a ≡ IsNode f r → RestsPast script events a floor
