-- The ranges of version 3 hold those of the versions before it.
use Rattle.std.proofs.Common.{◌≡◌, ℕ, ◌-◌, ◌^◌, ◌%◌, ◌≤◌, Bool, true, false, ◌&&◌, ◌||◌, ◌==◌, nat_lt, nat_le, length, refl, arith, Option, Some, None}
use Rattle.std.specs.Prelude.{if◌then◌else◌, unwrap_or}
use Rattle.dpc_lists.specs.Lists.{list_all}
use Rattle.dpc_lists.proofs.Truths.{both, both-of, le-test, all-weaker}
use Rattle.dpc_model.specs.ScriptText.{upgraded}
use Rattle.dpc_model.specs.declared.operators.OpKind.{OpKind}
use Rattle.dpc_model.specs.declared.operators.OpKind.TheVariants as kind
use Rattle.dpc_model.specs.declared.operators.OpSpec.{OpSpec}
use Rattle.dpc_model.specs.declared.plans.FragSpec.{FragSpec}
use Rattle.dpc_model.specs.declared.plans.Plan.{Plan}
use Rattle.dpc_model.specs.declared.scripts.Script.{Script}
use Rattle.script_rules.specs.Spelling.{is_name}
use Rattle.script_rules.specs.Places.{is_between}
use Rattle.script_rules.specs.Reasons.{agg_reads_below}
use Rattle.script_rules.specs.Checking.{top, is_in_range, is_header_in_range, is_frag_in_range, is_op_in_range, is_kind_in_range, are_inputs_in_range, is_delay_in_range, is_u64, is_source_in_range, is_client_in_range, is_phase_in_range, IsChecked}
use Rattle.script_rules.proofs.Ranges.{between, top_is_low}
use Rattle.law_scripts.proofs.UpgradedSaid.{upgraded_plan, upgraded-passes}

is-between : (low high n : ℕ) → low ≤ n → n ≤ high → is_between low high n ≡ true
is-between low high n l h = both-of (nat_le low n) (nat_le n high) (le-test low n l) (le-test n high h)

-- below the top of the version, so below that of version 3
below-top : (plan : Plan) (low n : ℕ) → is_between low (top plan) n ≡ true → is_between low (top (upgraded_plan plan)) n ≡ true
below-top plan low n h =
    let p = between low (top plan) n h in
    let high = top_is_low plan in
    is-between low (2 ^ 62 - 1) n p.0 (omega (arith, p.1, high))

kind-wider : (plan : Plan) (k : OpKind) → is_kind_in_range plan k ≡ true → is_kind_in_range (upgraded_plan plan) k ≡ true
kind-wider plan (kind.Filter e) h = h
kind-wider plan (kind.Map es) h = h
kind-wider plan kind.Union h = h
kind-wider plan (kind.Join within keys) h =
    let a = both (is_between 0 (top plan) within && is_between 0 8 (length keys)) (list_all (λ (pair : ℕ × ℕ). is_u64 pair.0 && is_u64 pair.1) keys) h in
    let b = both (is_between 0 (top plan) within) (is_between 0 8 (length keys)) a.0 in
    both-of _ _ (both-of _ _ (below-top plan 0 within b.0) b.1) a.1
kind-wider plan (kind.Aggregate size step group aggs) h =
    let a = both (is_between 1 (top plan) size && is_between 1 (top plan) step && nat_lt (unwrap_or group 0) 8 && is_between 1 8 (length aggs)) (list_all (agg_reads_below 8) aggs) h in
    let b = both (is_between 1 (top plan) size && is_between 1 (top plan) step && nat_lt (unwrap_or group 0) 8) (is_between 1 8 (length aggs)) a.0 in
    let c = both (is_between 1 (top plan) size && is_between 1 (top plan) step) (nat_lt (unwrap_or group 0) 8) b.0 in
    let d = both (is_between 1 (top plan) size) (is_between 1 (top plan) step) c.0 in
    both-of _ _ (both-of _ _ (both-of _ _ (both-of _ _ (below-top plan 1 size d.0) (below-top plan 1 step d.1)) c.1) b.1) a.1

op-wider : (plan : Plan) (op : OpSpec) → is_op_in_range plan op ≡ true → is_op_in_range (upgraded_plan plan) op ≡ true
op-wider plan op h =
    let a = both (is_name op.name && are_inputs_in_range op.kind (length op.reads)) (is_kind_in_range plan op.kind) h in both-of _ _ a.0 (kind-wider plan op.kind a.1)

delay-wider : (plan : Plan) (o : Option ℕ) → is_delay_in_range plan o ≡ true → is_delay_in_range (upgraded_plan plan) o ≡ true
delay-wider plan None h = refl
delay-wider plan (Some delay) h = (both (plan.version == 3) (is_between 0 (10 ^ 12) delay) h).1

frag-wider : (plan : Plan) (f : FragSpec) → is_frag_in_range plan f ≡ true → is_frag_in_range (upgraded_plan plan) f ≡ true
frag-wider plan f h =
    let a = both (is_name f.name && is_between 1 4 f.replicas && is_delay_in_range plan f.delay && is_between 1 8 (length f.inputs)) (list_all (is_op_in_range plan) f.ops) h in
    let b = both (is_name f.name && is_between 1 4 f.replicas && is_delay_in_range plan f.delay) (is_between 1 8 (length f.inputs)) a.0 in
    let c = both (is_name f.name && is_between 1 4 f.replicas) (is_delay_in_range plan f.delay) b.0 in
    both-of _ _ (both-of _ _ (both-of _ _ c.0 (delay-wider plan f.delay c.1)) b.1)
    (all-weaker (is_op_in_range (upgraded_plan plan)) (is_op_in_range plan) f.ops (λ op k. op-wider plan op k) a.1)

header-wider : (plan : Plan) → is_header_in_range plan ≡ true → is_header_in_range (upgraded_plan plan) ≡ true
header-wider plan h =
    let version = is_between 1 3 plan.version in
    let passing = plan.version == 3 || (if plan.passing then plan.version == 2 else plan.version == 1) in
    let width = is_between 1 (if plan.version == 3 then 2 ^ 50 else 1000000) plan.width in
    let delay = is_between 0 (10 ^ 12) plan.delay in
    let end = is_between plan.width (top plan) plan.end in
    let a = both (version && passing && width && delay && end) (plan.end % plan.width == 0) h in
    let b = both (version && passing && width && delay) end a.0 in
    let c = both (version && passing && width) delay b.0 in
    let d = both (version && passing) width c.0 in
    let w = between 1 (if plan.version == 3 then 2 ^ 50 else 1000000) plan.width d.1 in
    let low = width-low (plan.version == 3) in
    both-of _ _ (both-of _ _ (both-of _ _ (is-between 1 (2 ^ 50) plan.width w.0 (omega (arith, w.1, low))) c.1) (below-top plan plan.width plan.end b.1)) a.1
  where
    width-low : (b : Bool) → (if b then 2 ^ 50 else 1000000) ≤ 2 ^ 50
    width-low true = omega arith
    width-low false = omega arith

pub upgraded-in-range : (s : Script) → is_in_range s ≡ true → is_in_range (upgraded s) ≡ true
unfolding is_in_range
upgraded-in-range s h =
    let plan = s.plan in
    let a = both (is_header_in_range plan && list_all is_source_in_range plan.sources && list_all (is_frag_in_range plan) plan.frags && list_all is_client_in_range plan.clients) (list_all (is_phase_in_range plan) s.phases) h in
    let b = both (is_header_in_range plan && list_all is_source_in_range plan.sources && list_all (is_frag_in_range plan) plan.frags) (list_all is_client_in_range plan.clients) a.0 in
    let c = both (is_header_in_range plan && list_all is_source_in_range plan.sources) (list_all (is_frag_in_range plan) plan.frags) b.0 in
    let d = both (is_header_in_range plan) (list_all is_source_in_range plan.sources) c.0 in
    both-of _ _ (both-of _ _ (both-of _ _ (both-of _ _ (header-wider plan d.0) d.1)
    (all-weaker (is_frag_in_range (upgraded_plan plan)) (is_frag_in_range plan) plan.frags (λ f k. frag-wider plan f k) c.1)) b.1) a.1

pub upgraded-checked : (s : Script) → IsChecked s → IsChecked (upgraded s)
upgraded-checked s c = record { in_range = upgraded-in-range s c.in_range; faultless = upgraded-passes s c }
