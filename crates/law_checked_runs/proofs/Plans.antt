-- From what engines rely on to what a run asks of its plan.
use Rattle.std.proofs.Common.{◌≡◌, ◌≤◌, ◌<◌, ℕ, zero, suc, true, List, [], ◌∷◌, length, arith}
use Rattle.std.specs.Prelude.{nat_le, slice_index_or}
use Rattle.std.proofs.lemmas.Bool.{and_parts, leb-true}
use Rattle.dpc_lists.specs.Lists.{list_all}
use Rattle.dpc_model.specs.declared.plans.FragSpec.{FragSpec}
use Rattle.dpc_model.specs.declared.plans.TheConstants.{MOST_REPLICAS}
use Rattle.dpc_model.specs.declared.scripts.Script.{Script}
use Rattle.script_rules.specs.Places.{is_between}
use Rattle.script_rules.specs.Facts.{HasFacts, has_sizes}
use Rattle.law_fit.specs.Fits.{CanRun}
use Rattle.law_checked_plans.proofs.Plans.{checked_plan}

few_replicas : (frags : List FragSpec) → list_all has_sizes frags ≡ true → (k : ℕ) (d : FragSpec) → k < length frags → (slice_index_or frags k d).replicas ≤ MOST_REPLICAS
few_replicas [] h k d below = omega (arith, below)
few_replicas (f ∷ fs) h zero d below =
    let both = and_parts (has_sizes f) (list_all has_sizes fs) h in
    let sizes = and_parts (is_between 1 4 f.replicas) (is_between 1 8 (length f.inputs)) both.0 in
    let within = and_parts (nat_le 1 f.replicas) (nat_le f.replicas 4) sizes.0 in leb-true f.replicas 4 within.1
few_replicas (f ∷ fs) h (suc k) d below =
    let both = and_parts (has_sizes f) (list_all has_sizes fs) h in
    let less : k < length fs = omega (arith, below) in few_replicas fs both.1 k d less

pub can_run : (s : Script) → HasFacts s → CanRun s.plan
can_run s h =
    let ends = h.form.ends in record { checked = checked_plan s h; few = few_replicas s.plan.frags h.form.sizes; end = omega (arith, ends) }
