-- A checked script can settle.
use Rattle.std.proofs.Common.{◌≡◌, ℕ, ◌+◌, ◌*◌, ◌^◌, ◌≤◌, true, List, [], ◌∷◌, map, length, arith}
use Rattle.std.specs.Prelude.{max, fold, All, nat_le}
use Rattle.std.proofs.lemmas.Bool.{and_parts, leb-true}
use Rattle.std.proofs.lemmas.List.Elements.{All-nil, All-cons}
use Rattle.std.proofs.Math.Nat.{mul-le-mul_left}
use Rattle.dpc_lists.specs.Lists.{list_all}
use Rattle.dpc_model.specs.Actors.{role_of, inputs_of}
use Rattle.dpc_model.specs.declared.plans.FragSpec.{FragSpec}
use Rattle.dpc_model.specs.declared.plans.Plan.{Plan}
use Rattle.dpc_model.specs.declared.scripts.Phase.{Phase}
use Rattle.dpc_model.specs.declared.scripts.Script.{Script}
use Rattle.world_model.specs.Schedules.{settling_phases, quiet_limit, last_clock}
use Rattle.script_rules.specs.Places.{is_between}
use Rattle.script_rules.specs.Checking.{IsChecked, is_phase_in_range, is_directive_in_range}
use Rattle.script_rules.specs.Facts.{has_sizes}
use Rattle.script_rules.proofs.Ranges.{ranges, between}
use Rattle.script_rules.proofs.SaysItself.{checked_has_facts}
use Rattle.law_checked_plans.proofs.Plans.{checked_plan}
use Rattle.law_readers.specs.Settling.{CanSettle}
use Rattle.law_settling_scripts.proofs.Few.{few_frags, once_at, role_once}

replicas_low : (f : FragSpec) → has_sizes f ≡ true → f.replicas ≤ 4
replicas_low f h = leb-true f.replicas 4 (and_parts (nat_le 1 f.replicas) (nat_le f.replicas 4) (and_parts (is_between 1 4 f.replicas) (is_between 1 8 (length f.inputs)) h).0).1

low_clock : (plan : Plan) (p : Phase) → is_phase_in_range plan p ≡ true → p.now ≤ 10 ^ 12
low_clock plan p h = (between 0 (10 ^ 12) p.now (and_parts (list_all (is_directive_in_range plan) p.directives) (is_between 0 (10 ^ 12) p.now) h).1).1

low_clocks : (plan : Plan) (ps : List Phase) → list_all (is_phase_in_range plan) ps ≡ true → All (λ (p : Phase). p.now ≤ 10 ^ 12) ps
low_clocks plan [] h = All-nil (λ (p : Phase). p.now ≤ 10 ^ 12)
low_clocks plan (p ∷ ps) h =
    let q = and_parts (is_phase_in_range plan p) (list_all (is_phase_in_range plan) ps) h in All-cons (λ (x : Phase). x.now ≤ 10 ^ 12) p ps (low_clock plan p q.0) (low_clocks plan ps q.1)

-- the last clock, and the most replicas
last_low : (plan : Plan) (now : ℕ) (ps : List Phase) → now ≤ 10 ^ 12 → list_all (is_phase_in_range plan) ps ≡ true → fold (λ _ n. n) now (map (λ (p : Phase). p.now) ps) ≤ 10 ^ 12
last_low plan now [] low h = low
last_low plan now (p ∷ ps) low h = let q = and_parts (is_phase_in_range plan p) (list_all (is_phase_in_range plan) ps) h in last_low plan p.now ps (low_clock plan p q.0) q.1

most_low : (n : ℕ) (fs : List FragSpec) → n ≤ 4 → list_all has_sizes fs ≡ true → fold max n (map (λ (f : FragSpec). f.replicas) fs) ≤ 4
most_low n [] low h = low
most_low n (f ∷ fs) low h =
    let p = and_parts (has_sizes f) (list_all has_sizes fs) h in
    let few = replicas_low f p.0 in
    most_low (max n f.replicas) fs (omega (arith, low, few)) p.1

limit_low : (f r : ℕ) → f ≤ 16 → r ≤ 4 → (f + 1) * (r + 1) * settling_phases ≤ 3230
limit_low f r few low =
    let one : (f + 1) * (r + 1) ≤ (f + 1) * 5 = mul-le-mul_left (f + 1) (omega (arith, low)) in
    omega (arith, one, few)

pub can_settle : (s : Script) → IsChecked s → CanSettle s
can_settle s c =
    let facts = checked_has_facts s c in
    let form = facts.form in
    let phases = (ranges s c.in_range).phases in
    let last : last_clock s ≤ 10 ^ 12 = last_low s.plan 0 s.phases (omega arith) phases in
    let limit : quiet_limit s.plan ≤ 3230 = limit_low (length s.plan.frags) (fold max 0 (map (λ (f : FragSpec). f.replicas) s.plan.frags)) (few_frags s c) (most_low 0 s.plan.frags (omega arith) form.sizes) in
    record {
      plan = checked_plan s facts;
      once = λ x p q u e f. once_at (inputs_of s.plan (role_of s.plan x)) p q u (role_once s.plan (role_of s.plan x) form.once) e f;
      clocks = form.clocks;
      low = low_clocks s.plan s.phases phases;
      quiet = omega (arith, last, limit);
    }
