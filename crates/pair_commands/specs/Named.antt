-- Which clients two words name.
use Rattle.std.specs.Prelude.{ℕ, Bool, false, not, ◌&&◌, ◌==◌, if◌then◌else◌, List, Option, Some, None, slice_get, position, bytes_eq}
use Rattle.dpc_model.specs.Actors.{same_stream}
use Rattle.dpc_model.specs.declared.plans.ClientSpec.{ClientSpec}
use Rattle.dpc_model.specs.declared.plans.Plan.{Plan}

-- the number of the client under a name
abbrev pub client_named : Plan → List ℕ → Option ℕ
client_named plan name = position (λ (c : ClientSpec). bytes_eq c.name name) plan.clients

-- they read one stream
abbrev pub are_alike : Option ClientSpec → Option ClientSpec → Bool
are_alike None d = false
are_alike (Some c) None = false
are_alike (Some c) (Some d) = same_stream c.input d.input

-- two numbers are not the same one, and of clients of one stream
abbrev pub are_readers : Plan → ℕ → ℕ → Bool
are_readers plan x y = not (x == y) && are_alike (slice_get plan.clients x) (slice_get plan.clients y)

-- the numbers of two clients of one stream under these names
abbrev pub pair_named : Plan → List ℕ → List ℕ → Option (ℕ × ℕ)
pair_named plan first second =
    elim (client_named plan first) [
      | None ↦ None
      | Some x ↦ elim (client_named plan second) [ None ↦ None | Some y ↦ if are_readers plan x y then Some (x, y) else None ]
    ]
