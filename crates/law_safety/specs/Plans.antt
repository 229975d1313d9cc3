-- What every checked plan has, as the law of every run needs it.
use Rattle.std.specs.Prelude.{◌≡◌, ℕ, ◌*◌, ◌<◌, Bool, true, ◌&&◌, ◌==◌, nat_lt, List, [], ◌∷◌, map, length}
use Rattle.dpc_lists.specs.Lists.{nth, push, list_all}
use Rattle.dpc_model.specs.Fragments.{IsSound, log_of}
use Rattle.dpc_model.specs.Actors.{senders_of}
use Rattle.dpc_model.specs.declared.plans.Plan.{Plan}
use Rattle.dpc_model.specs.declared.plans.StreamRef.{StreamRef}
use Rattle.dpc_model.specs.declared.plans.StreamRef.TheVariants.{Source}
use Rattle.dpc_model.specs.Columns.{kind_columns, wire_columns, fragment_columns, columns_by}
use Rattle.dpc_model.specs.declared.operators.OpKind.{OpKind}
use Rattle.dpc_model.specs.declared.operators.OpKind.TheVariants.{Filter, Map, Union, Join, Aggregate}
use Rattle.dpc_model.specs.declared.operators.OpSpec.{OpSpec}
use Rattle.dpc_model.specs.declared.plans.FragSpec.{FragSpec}
use Rattle.node_model.specs.Nodes.{Home, streams_of, buckets_of}
use Rattle.node_model.specs.Clients.{client_stream}
use Rattle.world_model.specs.Orderly.{fits_stream}

-- each of these streams has a sender
abbrev pub has_senders : Plan → StreamRef → Bool
has_senders plan s = nat_lt 0 (length (senders_of plan s))

-- the inputs of a union have equal columns
abbrev pub is_even : OpKind → List ℕ → Bool
is_even (Filter e) inputs = true
is_even (Map es) inputs = true
is_even Union inputs = list_all (λ c. c == nth 0 inputs 0) inputs
is_even (Join within keys) inputs = true
is_even (Aggregate size step group aggs) inputs = true

-- so do those of a fragment's operators, behind those whose columns stand
abbrev pub are_even_ops : List ℕ → List ℕ → List OpSpec → Bool
are_even_ops ports outputs [] = true
are_even_ops ports outputs (op ∷ ops) =
    let reads = map (wire_columns ports outputs) op.reads in is_even op.kind reads && are_even_ops ports (push outputs (kind_columns op.kind reads)) ops

abbrev pub are_even_frags : Plan → List ℕ → List FragSpec → Bool
are_even_frags plan done [] = true
are_even_frags plan done (f ∷ rest) =
    let ports = map (columns_by plan done) f.inputs in are_even_ops ports [] f.ops && are_even_frags plan (push done (fragment_columns ports f.ops)) rest

pub record IsChecked (plan : Plan) : Type 0 where
  pub sound : IsSound plan
  pub width : 0 < plan.width
  -- a run is a whole number of buckets
  pub whole : buckets_of plan * plan.width ≡ plan.end
  -- each log lies below end and has its source's columns
  pub logs : (s : ℕ) → list_all (fits_stream plan (Source s)) (log_of plan s) ≡ true
  -- unions read equal columns
  pub even : are_even_frags plan [] plan.frags ≡ true

-- a fragment of a checked plan
pub record IsPlace (home : Home) : Type 0 where
  pub checked : IsChecked home.plan
  pub there : home.frag < length home.plan.frags
  -- it reads a stream, and each that it reads is sent
  pub reads : 0 < length (streams_of home)
  pub sent : list_all (has_senders home.plan) (streams_of home) ≡ true

-- the streams that a fragment reads
abbrev pub inputs_at : Plan → ℕ → List StreamRef
inputs_at plan f = streams_of (record { plan = plan; frag = f; replica = 0 })

-- a checked plan: beside the above, each fragment reads a stream, and all that is read is sent
pub record IsCheckedPlan (plan : Plan) : Type 0 where
  pub checked : IsChecked plan
  pub reads : (f : ℕ) → f < length plan.frags → 0 < length (inputs_at plan f)
  pub sent : (f : ℕ) → f < length plan.frags → list_all (has_senders plan) (inputs_at plan f) ≡ true
  pub clients : (c : ℕ) → c < length plan.clients → has_senders plan (client_stream plan c) ≡ true
