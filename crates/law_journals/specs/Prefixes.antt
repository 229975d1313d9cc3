-- What a reader took of its session.
use Rattle.std.specs.Prelude.{◌≡◌, ℕ, List, Some, slice_get}
use Rattle.dpc_lists.specs.Lists.{IsPrefixOf}
use Rattle.dpc_model.specs.Actors.{role_of, inputs_of}
use Rattle.dpc_model.specs.Ports.{Port}
use Rattle.dpc_model.specs.declared.messages.Event.{Event}
use Rattle.dpc_model.specs.declared.plans.Plan.{Plan}
use Rattle.dpc_model.specs.declared.plans.StreamRef.{StreamRef}
use Rattle.world_model.specs.Worlds.{run}
use Rattle.law_granting.specs.Taken.{batches_in, taken_in, port_of, line_of}

-- the batches that each port took in its session are the first ones that the sender which it reads sent in it, in order, each once
abbrev pub PrefixesAreTaken : Plan → List Event → Type 0
PrefixesAreTaken plan events =
    (x p : ℕ) (s : StreamRef) (q : Port) → slice_get (inputs_of plan (role_of plan x)) p ≡ Some s → port_of (run plan events) x p ≡ Some q →
    IsPrefixOf (taken_in plan events x p) (batches_in (line_of plan x s q) 0 (run plan events).envelopes)
