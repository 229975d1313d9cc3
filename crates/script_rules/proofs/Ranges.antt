-- What the ranges of a script's numbers say, part by part.
use Rattle.std.proofs.Common.{◌≡◌, ℕ, ◌-◌, ◌^◌, ◌%◌, ◌<◌, ◌≤◌, true, false, List, [], ◌∷◌, length, arith, refl}
use Rattle.std.specs.Prelude.{◌&&◌, ◌||◌, ◌==◌, nat_lt, nat_le, if◌then◌else◌, unwrap_or}
use Rattle.std.proofs.lemmas.Bool.{and_parts, eqb-true, leb-true}
use Rattle.dpc_lists.specs.Lists.{list_all}
use Rattle.dpc_model.specs.Fragments.{IsSoundKind, AreSoundOps, AreSoundFrags}
use Rattle.dpc_model.specs.declared.operators.OpKind.{OpKind}
use Rattle.dpc_model.specs.declared.operators.OpKind.TheVariants.{Filter, Map, Union, Join, Aggregate}
use Rattle.dpc_model.specs.declared.operators.OpSpec.{OpSpec}
use Rattle.dpc_model.specs.declared.plans.FragSpec.{FragSpec}
use Rattle.dpc_model.specs.declared.plans.Plan.{Plan}
use Rattle.dpc_model.specs.declared.scripts.Script.{Script}
use Rattle.script_rules.specs.Spelling.{is_name}
use Rattle.script_rules.specs.Places.{is_between}
use Rattle.script_rules.specs.Reasons.{agg_reads_below}
use Rattle.script_rules.specs.Facts.{has_sizes}
use Rattle.script_rules.specs.Checking.{top, is_in_range, is_header_in_range, is_source_in_range, is_frag_in_range, is_op_in_range, is_kind_in_range, are_inputs_in_range, is_delay_in_range, is_client_in_range, is_phase_in_range}

pub record HasRanges (s : Script) : Type 0 where
  pub header : is_header_in_range s.plan ≡ true
  pub sources : list_all is_source_in_range s.plan.sources ≡ true
  pub frags : list_all (is_frag_in_range s.plan) s.plan.frags ≡ true
  pub clients : list_all is_client_in_range s.plan.clients ≡ true
  pub phases : list_all (is_phase_in_range s.plan) s.phases ≡ true

pub ranges : (s : Script) → is_in_range s ≡ true → HasRanges s
unfolding is_in_range
ranges s h =
    let header = is_header_in_range s.plan in
    let sources = list_all is_source_in_range s.plan.sources in
    let frags = list_all (is_frag_in_range s.plan) s.plan.frags in
    let clients = list_all is_client_in_range s.plan.clients in
    let a = and_parts (header && sources && frags && clients) (list_all (is_phase_in_range s.plan) s.phases) h in
    let b = and_parts (header && sources && frags) clients a.0 in
    let c = and_parts (header && sources) frags b.0 in
    let d = and_parts header sources c.0 in
    record { header = d.0; sources = d.1; frags = c.1; clients = b.1; phases = a.1 }

pub between : (low high n : ℕ) → is_between low high n ≡ true → (low ≤ n) × (n ≤ high)
between low high n h = let p = and_parts (nat_le low n) (nat_le n high) h in (leb-true low n p.0, leb-true n high p.1)

-- the header's numbers
pub record HasHeaderRanges (plan : Plan) : Type 0 where
  pub version : (1 ≤ plan.version) × (plan.version ≤ 3)
  pub passing : (plan.version == 3 || (if plan.passing then plan.version == 2 else plan.version == 1)) ≡ true
  pub width : 1 ≤ plan.width
  pub delay : plan.delay ≤ 10 ^ 12
  pub begins : plan.width ≤ plan.end
  pub ends : plan.end ≤ top plan
  pub whole : plan.end % plan.width ≡ 0

pub header_ranges : (plan : Plan) → is_header_in_range plan ≡ true → HasHeaderRanges plan
header_ranges plan h =
    let version = is_between 1 3 plan.version in
    let passing = plan.version == 3 || (if plan.passing then plan.version == 2 else plan.version == 1) in
    let width = is_between 1 (if plan.version == 3 then 2 ^ 50 else 1000000) plan.width in
    let delay = is_between 0 (10 ^ 12) plan.delay in
    let end = is_between plan.width (top plan) plan.end in
    let a = and_parts (version && passing && width && delay && end) (plan.end % plan.width == 0) h in
    let b = and_parts (version && passing && width && delay) end a.0 in
    let c = and_parts (version && passing && width) delay b.0 in
    let d = and_parts (version && passing) width c.0 in
    let e = and_parts version passing d.0 in
    record {
      version = between 1 3 plan.version e.0;
      passing = e.1;
      width = (between 1 _ plan.width d.1).0;
      delay = (between 0 (10 ^ 12) plan.delay c.1).1;
      begins = (between plan.width (top plan) plan.end b.1).0;
      ends = (between plan.width (top plan) plan.end b.1).1;
      whole = eqb-true (plan.end % plan.width) 0 a.1;
    }

pub top_is_low : (plan : Plan) → top plan < 2 ^ 62
top_is_low plan = elim (plan.version == 3) as (λ t. (if t then 2 ^ 62 - 1 else 2 ^ 40 - 1) < 2 ^ 62) [ true ↦ omega arith | false ↦ omega arith ]

-- ---- windows have a size and a step

sound_kind : (plan : Plan) (k : OpKind) → is_kind_in_range plan k ≡ true → IsSoundKind k
sound_kind plan (Filter e) h = tt
sound_kind plan (Map es) h = tt
sound_kind plan Union h = tt
sound_kind plan (Join within keys) h = tt
sound_kind plan (Aggregate size step group aggs) h =
    let sizes = is_between 1 (top plan) size in
    let steps = is_between 1 (top plan) step in
    let groups = nat_lt (unwrap_or group 0) 8 in
    let few = is_between 1 8 (length aggs) in
    let a = and_parts (sizes && steps && groups && few) (list_all (agg_reads_below 8) aggs) h in
    let b = and_parts (sizes && steps && groups) few a.0 in
    let c = and_parts (sizes && steps) groups b.0 in
    let d = and_parts sizes steps c.0 in
    ((between 1 (top plan) size d.0).0, (between 1 (top plan) step d.1).0)

sound_ops : (plan : Plan) (ops : List OpSpec) → list_all (is_op_in_range plan) ops ≡ true → AreSoundOps ops
sound_ops plan [] h = tt
sound_ops plan (op ∷ ops) h =
    let p = and_parts (is_op_in_range plan op) (list_all (is_op_in_range plan) ops) h in
    let q = and_parts (is_name op.name && are_inputs_in_range op.kind (length op.reads)) (is_kind_in_range plan op.kind) p.0 in
    (sound_kind plan op.kind q.1, sound_ops plan ops p.1)

pub sound_frags : (plan : Plan) (fs : List FragSpec) → list_all (is_frag_in_range plan) fs ≡ true → AreSoundFrags fs
sound_frags plan [] h = tt
sound_frags plan (f ∷ fs) h =
    let p = and_parts (is_frag_in_range plan f) (list_all (is_frag_in_range plan) fs) h in
    let q = and_parts (is_name f.name && is_between 1 4 f.replicas && is_delay_in_range plan f.delay && is_between 1 8 (length f.inputs)) (list_all (is_op_in_range plan) f.ops) p.0 in
    (sound_ops plan f.ops q.1, sound_frags plan fs p.1)

-- a fragment has replicas, and reads a stream
pub frag_sizes : (plan : Plan) (fs : List FragSpec) → list_all (is_frag_in_range plan) fs ≡ true → list_all has_sizes fs ≡ true
frag_sizes plan [] h = refl
frag_sizes plan (f ∷ fs) h =
    let p = and_parts (is_frag_in_range plan f) (list_all (is_frag_in_range plan) fs) h in
    let replicas = is_between 1 4 f.replicas in
    let delay = is_delay_in_range plan f.delay in
    let ports = is_between 1 8 (length f.inputs) in
    let a = and_parts (is_name f.name && replicas && delay && ports) (list_all (is_op_in_range plan) f.ops) p.0 in
    let b = and_parts (is_name f.name && replicas && delay) ports a.0 in
    let c = and_parts (is_name f.name && replicas) delay b.0 in
    rw ((and_parts (is_name f.name) replicas c.0).1, b.1, frag_sizes plan fs p.1) refl
