-- What is said by the header of a script, and the plan that stands then.
use Rattle.std.proofs.Common.{◌≡◌, ℕ, ◌/◌, ◌≤◌, Bool, true, false, List, [], ◌∷◌, refl, ap, arith}
use Rattle.std.specs.Prelude.{◌&&◌, ◌||◌, ◌==◌, if◌then◌else◌}
use Rattle.std.proofs.lemmas.Bool.{ltb-false, eqb-true, ne_eqb}
use Rattle.dpc_lists.specs.Lists.{nth}
use Rattle.dpc_model.specs.declared.plans.SourceSpec.{SourceSpec}
use Rattle.dpc_model.specs.declared.plans.FragSpec.{FragSpec}
use Rattle.dpc_model.specs.declared.plans.ClientSpec.{ClientSpec}
use Rattle.dpc_model.specs.declared.plans.Plan.{Plan}
use Rattle.script_rules.specs.Statements.{HeaderLine}
use Rattle.script_rules.specs.Drafts.{Draft, nothing_yet, plan_of}
use Rattle.script_rules.specs.Checking.{header_statements}
use Rattle.script_rules.proofs.Passing.{Passes, all_said}
use Rattle.script_rules.proofs.Ranges.{HasHeaderRanges}

abbrev pub passing_number : Bool → ℕ
passing_number passing = if passing then 1 else 0

-- the numbers of the header's lines
abbrev pub header_of : Plan → List ℕ
header_of plan =
    plan.version ∷ plan.width ∷ plan.delay ∷ plan.end ∷ (if plan.version == 3 then passing_number plan.passing ∷ [] else [])

-- what stands before `begin`
abbrev pub declared : List ℕ → List SourceSpec → List FragSpec → List ClientSpec → Draft
declared header sources frags clients =
    record { header = header; sources = sources; frags = frags; clients = clients; begun = false; phases = []; directives = []; settle = false }

pub header_said : (plan : Plan) → all_said nothing_yet (header_statements plan) ≡ declared (header_of plan) [] [] []
header_said plan =
    elim (plan.version == 3) as (λ t. all_said nothing_yet (HeaderLine 0 plan.version ∷ HeaderLine 1 plan.width ∷ HeaderLine 2 plan.delay ∷ HeaderLine 3 plan.end ∷ (if t then HeaderLine 4 (passing_number plan.passing) ∷ [] else [])) ≡ declared (plan.version ∷ plan.width ∷ plan.delay ∷ plan.end ∷ (if t then passing_number plan.passing ∷ [] else [])) [] [] []) [
      | true ↦ refl
      | false ↦ refl
    ]

-- at most 10,000 buckets
pub few_buckets : (plan : Plan) → Passes nothing_yet (header_statements plan) → plan.end / plan.width ≤ 10000
few_buckets plan p =
    let from_width = p.1 in
    let from_delay = from_width.1 in
    let from_end = from_delay.1 in
    ltb-false 10000 (plan.end / plan.width) from_end.0.limit

-- ---- the plan under way

says_passing : (v : ℕ) (w dl e : ℕ) (p : Bool) → (v == 3 || (if p then v == 2 else v == 1)) ≡ true → (v == 2 || (v == 3 && nth 0 (v ∷ w ∷ dl ∷ e ∷ (if v == 3 then passing_number p ∷ [] else [])) 4 == 1)) ≡ p
says_passing v w dl e p h =
    (elim (v == 3) as (λ t. (v == 3) ≡ t → (t || (if p then v == 2 else v == 1)) ≡ true → (v == 2 || (t && nth 0 (v ∷ w ∷ dl ∷ e ∷ (if t then passing_number p ∷ [] else [])) 4 == 1)) ≡ p) [
      | true ↦ λ is k.
          let three : v ≡ 3 = eqb-true v 3 is in
          let not_two : (v == 2) ≡ false = ne_eqb v 2 (λ two. omega (arith, three, two)) in
          rw not_two (wide p)
      | false ↦ λ is k. narrow v p k
    ]) refl h
  where
    wide : (p : Bool) → (passing_number p == 1) ≡ p
    wide true = refl
    wide false = refl

    narrow : (v : ℕ) (p : Bool) → (if p then v == 2 else v == 1) ≡ true → (v == 2 || false) ≡ p
    narrow v true k = rw k refl
    narrow v false k =
        let one : v ≡ 1 = eqb-true v 1 k in
        let not_two : (v == 2) ≡ false = ne_eqb v 2 (λ two. omega (arith, one, two)) in
        rw not_two refl

pub plan_said : (plan : Plan) (sources : List SourceSpec) (frags : List FragSpec) (clients : List ClientSpec) → HasHeaderRanges plan →
    plan_of (declared (header_of plan) sources frags clients) ≡ record plan { sources = sources; frags = frags; clients = clients }
plan_said plan sources frags clients h =
    ap (λ b. record plan { passing = b; sources = sources; frags = frags; clients = clients }) (says_passing plan.version plan.width plan.delay plan.end plan.passing h.passing)
