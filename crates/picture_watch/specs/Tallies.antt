-- What a watcher knows of what clients took.
use Rattle.std.specs.Prelude.{◌≡◌, ℕ, ◌+◌, ◌≤◌, List, map, length, take, Some, slice_get}
use Rattle.std.specs.List.{count_by}
use Rattle.dpc_model.specs.declared.plans.Plan.{Plan}
use Rattle.dpc_model.specs.declared.tuples.Item.{Item}
use Rattle.node_model.specs.Clients.{ClientState}
use Rattle.world_model.specs.Worlds.{World, client_at}
use Rattle.picture_model.specs.Points.{is_undo, is_done, client_point}
use Rattle.picture_watch.specs.declared.tallies.Tally.{Tally}
use Rattle.picture_watch.specs.declared.clients.Seen.{Seen}

-- nothing was looked at
abbrev pub first_tally : Tally
first_tally = record { mark = 0; undos = 0; dones = 0 }

-- of all these items
abbrev pub tally_of : List Item → Tally
tally_of items = record { mark = length items; undos = count_by is_undo items; dones = count_by is_done items }

abbrev pub tally_by : ClientState → Tally
tally_by x = tally_of x.taken

-- of the first so many of these items
pub record IsTally (t : Tally) (items : List Item) : Type 0 where
  pub within : t.mark ≤ length items
  pub first : t ≡ tally_of (take t.mark items)

-- with the undos and rec_dones of more items
abbrev pub counted_in : Tally → List Item → Tally
counted_in t items = record t { undos = t.undos + count_by is_undo items; dones = t.dones + count_by is_done items }

-- one for each client of the plan
pub record AreTallied (plan : Plan) (w : World) (ts : List Tally) : Type 0 where
  pub count : length ts ≡ length plan.clients
  pub each : (c : ℕ) (t : Tally) → slice_get ts c ≡ Some t → IsTally t (client_at w c).taken

-- all clients are shown, and what they took is counted
pub record AreSeen (plan : Plan) (w : World) (seen : Seen) : Type 0 where
  pub points : seen.points.items ≡ map (client_point plan) w.clients
  pub tallies : seen.tallies.items ≡ map tally_by w.clients
