-- What a script's value must keep: ranges of its names, numbers and counts, and the rules of what is said.
use Rattle.std.specs.Prelude.{◌≡◌, ℕ, ◌+◌, ◌-◌, ◌^◌, ◌%◌, Bool, true, false, ◌&&◌, ◌||◌, ◌==◌, nat_lt, if◌then◌else◌, List, [], ◌∷◌, ◌++◌, map, length, flat_map, Option, Some, None, unwrap_or}
use Rattle.dpc_lists.specs.Lists.{list_all}
use Rattle.dpc_model.specs.ScriptText.{source_name, stream_name, actor_name, wire_word}
use Rattle.dpc_model.specs.Formula.{Formula, Col, Num, Time, Neg, Not, Bin, If}
use Rattle.dpc_model.specs.declared.tuples.Tuple.{Tuple}
use Rattle.dpc_model.specs.declared.operators.OpKind.{OpKind}
use Rattle.dpc_model.specs.declared.operators.OpKind.TheVariants as kind
use Rattle.dpc_model.specs.declared.operators.OpSpec.{OpSpec}
use Rattle.dpc_model.specs.declared.plans.SourceSpec.{SourceSpec}
use Rattle.dpc_model.specs.declared.plans.FragSpec.{FragSpec}
use Rattle.dpc_model.specs.declared.plans.ClientSpec.{ClientSpec}
use Rattle.dpc_model.specs.declared.plans.Plan.{Plan}
use Rattle.dpc_model.specs.declared.scripts.Directive.{Directive}
use Rattle.dpc_model.specs.declared.scripts.Directive.TheVariants.{Emit, Release, Cut, Heal, Lose, Repeat, Crash, Restart}
use Rattle.dpc_model.specs.declared.scripts.Phase.{Phase}
use Rattle.dpc_model.specs.declared.scripts.Script.{Script}
use Rattle.script_rules.specs.declared.reasons.PlanFault.{PlanFault}
use Rattle.script_rules.specs.Spelling.{is_name, is_i64}
use Rattle.script_rules.specs.Places.{is_between}
use Rattle.script_rules.specs.Statements.{Statement, HeaderLine, SourceLine, LogLine, FragmentLine, PatienceLine, OperatorLine, ClientLine, BeginLine, SendLine, LinkLine, NodeLine, TickLine, SettleLine}
use Rattle.script_rules.specs.Drafts.{Draft, nothing_yet, and_then}
use Rattle.script_rules.specs.Reasons.{first_of_tests, tests_said, agg_reads_below}

-- ---- what a script says, line by line of its canonical text

abbrev pub header_statements : Plan → List Statement
header_statements plan =
    HeaderLine 0 plan.version ∷ HeaderLine 1 plan.width ∷ HeaderLine 2 plan.delay ∷ HeaderLine 3 plan.end
    ∷ (if plan.version == 3 then HeaderLine 4 (if plan.passing then 1 else 0) ∷ [] else [])

abbrev pub source_statements : SourceSpec → List Statement
source_statements s = SourceLine s.name s.columns ∷ map (λ (t : Tuple). LogLine s.name t.stime t.vals) s.log

abbrev pub patience_statements : Option ℕ → List Statement
patience_statements None = []
patience_statements (Some delay) = PatienceLine delay ∷ []

abbrev pub operator_statement : Plan → FragSpec → OpSpec → Statement
operator_statement plan f op = OperatorLine op.name (map (wire_word plan f) op.reads) op.kind

abbrev pub frag_statements : Plan → FragSpec → List Statement
frag_statements plan f =
    FragmentLine f.name f.replicas (map (stream_name plan) f.inputs) ∷ patience_statements f.delay ++ map (operator_statement plan f) f.ops

abbrev pub client_statement : Plan → ClientSpec → Statement
client_statement plan c = ClientLine c.name (stream_name plan c.input)

abbrev pub directive_statement : Plan → Directive → Statement
directive_statement plan (Emit s t) = SendLine Emit (source_name plan s) t
directive_statement plan (Release s t) = SendLine Release (source_name plan s) t
directive_statement plan (Cut a b) = LinkLine Cut (actor_name plan a) (actor_name plan b)
directive_statement plan (Heal a b) = LinkLine Heal (actor_name plan a) (actor_name plan b)
directive_statement plan (Lose a b) = LinkLine Lose (actor_name plan a) (actor_name plan b)
directive_statement plan (Repeat a b) = LinkLine Repeat (actor_name plan a) (actor_name plan b)
directive_statement plan (Crash a) = NodeLine true (actor_name plan a)
directive_statement plan (Restart a) = NodeLine false (actor_name plan a)

abbrev pub phase_statements : Plan → Phase → List Statement
phase_statements plan p = map (directive_statement plan) p.directives ++ TickLine p.now ∷ []

abbrev pub statements_of : Script → List Statement
statements_of s =
    header_statements s.plan ++ flat_map source_statements s.plan.sources ++ flat_map (frag_statements s.plan) s.plan.frags
    ++ map (client_statement s.plan) s.plan.clients ++ BeginLine ∷ flat_map (phase_statements s.plan) s.phases
    ++ (if s.settle then SettleLine ∷ [] else [])

-- ---- the rules of what is said

-- the first statement, of those numbered from n, against which a reason stands, and the least one
abbrev pub check_from : ℕ → Draft → List Statement → Option PlanFault
check_from n d [] = None
check_from n d (s ∷ ss) =
    elim (first_of_tests (tests_said d s)) [
      | None ↦ check_from (n + 1) (and_then d s) ss
      | Some r ↦ Some (record { line = n; reason = r })
    ]

-- the first fault of a script, and its line in the canonical text
unfoldable pub check : Script → Option PlanFault
check s = check_from 1 nothing_yet (statements_of s)

-- ---- names, numbers and counts

abbrev pub top : Plan → ℕ
top plan = if plan.version == 3 then 2 ^ 62 - 1 else 2 ^ 40 - 1

abbrev pub is_header_in_range : Plan → Bool
is_header_in_range plan =
    is_between 1 3 plan.version && (plan.version == 3 || (if plan.passing then plan.version == 2 else plan.version == 1))
    && is_between 1 (if plan.version == 3 then 2 ^ 50 else 1000000) plan.width && is_between 0 (10 ^ 12) plan.delay
    && is_between plan.width (top plan) plan.end && plan.end % plan.width == 0

-- a log's time and a key column have no range but that of their type
abbrev pub is_u64 : ℕ → Bool
is_u64 n = nat_lt n (2 ^ 64)

abbrev pub is_log_in_range : Tuple → Bool
is_log_in_range t = is_u64 t.stime && is_between 1 8 (length t.vals) && list_all is_i64 t.vals

abbrev pub is_source_in_range : SourceSpec → Bool
is_source_in_range s = is_name s.name && is_between 1 8 s.columns && list_all is_log_in_range s.log

-- columns that can be named, and numbers of i64
abbrev pub is_formula_in_range : Formula → Bool
is_formula_in_range (Col c) = nat_lt c 8
is_formula_in_range (Num z) = is_i64 z
is_formula_in_range Time = true
is_formula_in_range (Neg e) = is_formula_in_range e
is_formula_in_range (Not e) = is_formula_in_range e
is_formula_in_range (Bin op d e) = is_formula_in_range d && is_formula_in_range e
is_formula_in_range (If c d e) = is_formula_in_range c && is_formula_in_range d && is_formula_in_range e

-- how many inputs an operator has
abbrev pub are_inputs_in_range : OpKind → ℕ → Bool
are_inputs_in_range (kind.Filter e) n = n == 1
are_inputs_in_range (kind.Map es) n = n == 1
are_inputs_in_range kind.Union n = is_between 2 8 n
are_inputs_in_range (kind.Join within keys) n = n == 2
are_inputs_in_range (kind.Aggregate size step group aggs) n = n == 1

abbrev pub is_kind_in_range : Plan → OpKind → Bool
is_kind_in_range plan (kind.Filter e) = is_formula_in_range e
is_kind_in_range plan (kind.Map es) = is_between 1 8 (length es) && list_all is_formula_in_range es
is_kind_in_range plan kind.Union = true
is_kind_in_range plan (kind.Join within keys) = is_between 0 (top plan) within && is_between 0 8 (length keys) && list_all (λ (pair : ℕ × ℕ). is_u64 pair.0 && is_u64 pair.1) keys
is_kind_in_range plan (kind.Aggregate size step group aggs) =
    is_between 1 (top plan) size && is_between 1 (top plan) step && nat_lt (unwrap_or group 0) 8 && is_between 1 8 (length aggs)
    && list_all (agg_reads_below 8) aggs

abbrev pub is_op_in_range : Plan → OpSpec → Bool
is_op_in_range plan op = is_name op.name && are_inputs_in_range op.kind (length op.reads) && is_kind_in_range plan op.kind

-- a delay of its own only in version 3
abbrev pub is_delay_in_range : Plan → Option ℕ → Bool
is_delay_in_range plan None = true
is_delay_in_range plan (Some delay) = plan.version == 3 && is_between 0 (10 ^ 12) delay

abbrev pub is_frag_in_range : Plan → FragSpec → Bool
is_frag_in_range plan f =
    is_name f.name && is_between 1 4 f.replicas && is_delay_in_range plan f.delay && is_between 1 8 (length f.inputs) && list_all (is_op_in_range plan) f.ops

abbrev pub is_client_in_range : ClientSpec → Bool
is_client_in_range c = is_name c.name

abbrev pub is_directive_in_range : Plan → Directive → Bool
is_directive_in_range plan (Emit s t) = is_between 1 plan.end t
is_directive_in_range plan (Release s t) = is_between 1 plan.end t
is_directive_in_range plan _ = true

abbrev pub is_phase_in_range : Plan → Phase → Bool
is_phase_in_range plan p = list_all (is_directive_in_range plan) p.directives && is_between 0 (10 ^ 12) p.now

-- whether the names, numbers and counts of a script are in their ranges
unfoldable pub is_in_range : Script → Bool
is_in_range s =
    is_header_in_range s.plan && list_all is_source_in_range s.plan.sources && list_all (is_frag_in_range s.plan) s.plan.frags
    && list_all is_client_in_range s.plan.clients && list_all (is_phase_in_range s.plan) s.phases

-- a script that every call may be given
pub record IsChecked (s : Script) : Type 0 where
  pub in_range : is_in_range s ≡ true
  pub faultless : check s ≡ None
