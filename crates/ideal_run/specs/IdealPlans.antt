-- The plans whose failure-free streams are milled, and those streams.
use Rattle.std.specs.Prelude.{◌≡◌, ℕ, ◌<◌, ◌%◌, ◌^◌, List, [], All}
use Rattle.dpc_model.specs.Fragments.{log_of, fragments_upto, IsSound}
use Rattle.dpc_model.specs.declared.tuples.Tuple.{Tuple}
use Rattle.dpc_model.specs.declared.plans.Plan.{Plan}

-- what milling needs of a plan, and what every checked script has
pub record IsIdealPlan (plan : Plan) : Type 0 where
  pub sound : IsSound plan
  pub width : 0 < plan.width
  -- a whole number of buckets
  pub whole : plan.end % plan.width ≡ 0
  pub small : plan.end < 2 ^ 62
  -- every log lies below the end
  pub logs : (s : ℕ) → All (λ (t : Tuple). t.stime < plan.end) (log_of plan s)

-- the failure-free streams of the fragments in order
abbrev pub frag_streams : Plan → List (List Tuple)
frag_streams plan = fragments_upto plan plan.end [] plan.frags
