-- What a look shows, and what contracts see of a looker.
use Rattle.std.specs.Prelude.{◌≡◌, ℕ, ◌≤◌, max, List, length, take, drop, unwrap_or}
use Rattle.dpc_model.specs.Fragments.{ideal, ideal_upto}
use Rattle.dpc_model.specs.declared.plans.Plan.{Plan}
use Rattle.dpc_model.specs.declared.tuples.Tuple.{Tuple}
use Rattle.node_model.specs.Clients.{client_stream}
use Rattle.live_view.specs.declared.sight.Sight.{Sight}

-- the client, and the greatest count and bound that were looked at or learnt
pub record LookerState : Type 0 where
  pub client : ℕ
  pub count : ℕ
  pub bound : ℕ

-- what was seen, and the greatest count and bound that were learnt
abbrev pub looker_of : Sight → ℕ → ℕ → LookerState
looker_of v count bound =
    record { client = unwrap_or v.client 0; count = max (length v.tuples) count; bound = max v.bound bound }

abbrev pub new_looker : ℕ → LookerState
new_looker c = record { client = c; count = 0; bound = 0 }

-- the count, the bound and the tuples are those of the client's failure-free output
pub record IsLook (plan : Plan) (c from count bound : ℕ) (tuples : List Tuple) : Type 0 where
  -- so many tuples there are
  pub within : count ≤ length (ideal plan (client_stream plan c))
  -- and all below the bound are among these
  pub whole : length (ideal_upto plan (client_stream plan c) bound) ≤ count
  -- of these it shows those from a number on
  pub shown : tuples ≡ drop from (take count (ideal plan (client_stream plan c)))

-- the same client, with no less
pub record IsNoLess (old new : LookerState) : Type 0 where
  pub client : new.client ≡ old.client
  pub count : old.count ≤ new.count
  pub bound : old.bound ≤ new.bound
