-- What there is at the opening.
use Rattle.std.specs.Prelude.{ℕ, List, Some, map}
use Rattle.std.specs.List.{AllZip}
use Rattle.dpc_lists.specs.Lists.{range_with_len}
use Rattle.dpc_model.specs.declared.plans.Plan.{Plan}
use Rattle.node_model.specs.Nodes.{new_node}
use Rattle.node_model.specs.Clients.{new_client}
use Rattle.client_fold.specs.Folding.{ClientValue, StandsForClient}
use Rattle.world_model.specs.Worlds.{Slot, home_of}
use Rattle.world_parts.specs.Parts.{SlotValue, StandsForSlot}

-- the place of a replica of a fragment
abbrev pub new_slot : Plan → ℕ × ℕ → Slot
new_slot plan n = record { last_inc = 1; node = Some (new_node (home_of plan n)) }

abbrev pub IsNewSlot : Plan → ℕ × ℕ → SlotValue → Type 0
IsNewSlot plan n v = StandsForSlot (home_of plan n) v (new_slot plan n)

-- the places of these fragments and replicas
abbrev pub AreNewSlots : Plan → List (ℕ × ℕ) → List SlotValue → Type 0
AreNewSlots plan = AllZip (IsNewSlot plan)

-- the replicas of a fragment below a number
abbrev pub replicas_below : ℕ → ℕ → List (ℕ × ℕ)
replicas_below f count = map (λ r. (f, r)) (range_with_len 0 count)

-- the clients of these numbers
abbrev pub AreNewClients : Plan → List ℕ → List ClientValue → Type 0
AreNewClients plan = AllZip (λ c v. StandsForClient plan c v (new_client plan c))
