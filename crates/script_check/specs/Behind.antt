-- What is said behind some fragments of a plan. A stream or an operator that is read may have the name of an earlier one: it is
-- found by its name, so these fragments have the names of the plan's and read what their names stand for.
use Rattle.std.specs.Prelude.{◌≡◌, ℕ, true, false, is_none, fold, List, [], ◌∷◌, ◌++◌, map, flat_map, Result, Ok, Err}
use Rattle.dpc_lists.specs.Lists.{list_any}
use Rattle.dpc_model.specs.ScriptText.{stream_name}
use Rattle.dpc_model.specs.Columns.{columns_after, frags_columns}
use Rattle.dpc_model.specs.declared.operators.OpSpec.{OpSpec}
use Rattle.dpc_model.specs.declared.plans.FragSpec.{FragSpec}
use Rattle.dpc_model.specs.declared.plans.ClientSpec.{ClientSpec}
use Rattle.dpc_model.specs.declared.plans.Plan.{Plan}
use Rattle.script_rules.specs.declared.reasons.PlanFault.{PlanFault}
use Rattle.script_rules.specs.Statements.{Statement}
use Rattle.script_rules.specs.Drafts.{Draft, nothing_yet, op_names, and_then}
use Rattle.script_rules.specs.Checking.{frag_statements, client_statement, statements_of}
use Rattle.script_check.specs.Judging.{Judges, declaring, bare}
use Rattle.script_check.specs.Locals.{named_frags, named_clients, stream_of, found_stream, port_columns}

-- these fragments stand for those before, whose columns are listed
pub record StandFor (plan : Plan) (before : List FragSpec) (columns : List ℕ) (fs : List FragSpec) : Type 0 where
  pub named : named_frags fs ≡ named_frags before
  pub ops : map op_names fs ≡ map op_names before
  pub counted : frags_columns plan [] fs ≡ columns

pub record IsBehind (plan : Plan) (before : List FragSpec) (columns : List ℕ) (d : Draft) : Type 0 where
  pub fs : List FragSpec
  pub stand : StandFor plan before columns fs
  pub draft : d ≡ declaring plan plan.sources fs []

-- the fragment under way stands for the first operators of a fragment
pub record StandsFor (plan : Plan) (before : List FragSpec) (columns : List ℕ) (f : FragSpec) (done : List OpSpec) (outs : List ℕ) (last : FragSpec) : Type 0 where
  pub name : last.name ≡ f.name
  pub inputs : last.inputs ≡ map (found_stream plan before) f.inputs
  pub known : list_any (λ w. is_none (stream_of plan.sources before w)) (map (stream_name plan) f.inputs) ≡ false
  pub ops : op_names last ≡ map (λ (op : OpSpec). op.name) done
  pub counted : columns_after (port_columns plan before columns f) [] last.ops ≡ outs

pub record IsInside (plan : Plan) (before : List FragSpec) (columns : List ℕ) (f : FragSpec) (done : List OpSpec) (outs : List ℕ) (d : Draft) : Type 0 where
  pub front : List FragSpec
  pub last : FragSpec
  pub stand : StandFor plan before columns front
  pub stands : StandsFor plan before columns f done outs last
  pub draft : d ≡ declaring plan plan.sources (front ++ last ∷ []) []

-- all fragments and these clients are said
pub record IsBehindClients (plan : Plan) (before : List ClientSpec) (d : Draft) : Type 0 where
  pub fs : List FragSpec
  pub clients : List ClientSpec
  pub named : named_frags fs ≡ named_frags plan.frags
  pub ops : map op_names fs ≡ map op_names plan.frags
  pub same : named_clients clients ≡ named_clients before
  pub draft : d ≡ declaring plan plan.sources fs clients

-- the line behind a fragment of whose lines these are left, and its columns, or the first fault
abbrev pub JudgesFragment : Result (ℕ × ℕ) PlanFault → ℕ → Plan → List FragSpec → List ℕ → FragSpec → Draft → List Statement → Type 0
JudgesFragment (Ok x) n plan before columns f d ss = Judges (Ok x.0) n d ss × IsBehind plan (before ++ f ∷ []) (columns ++ x.1 ∷ []) (fold and_then d ss)
JudgesFragment (Err fault) n plan before columns f d ss = Judges (Err fault) n d ss

-- the line behind all fragments, or the first fault
abbrev pub JudgesFragments : Result ℕ PlanFault → ℕ → Plan → Type 0
JudgesFragments (Ok line) n plan =
    let d = declaring plan plan.sources [] [] in
    let ss = flat_map (frag_statements plan) plan.frags in Judges (Ok line) n d ss × ((columns : List ℕ) × IsBehind plan plan.frags columns (fold and_then d ss))
JudgesFragments (Err fault) n plan = Judges (Err fault) n (declaring plan plan.sources [] []) (flat_map (frag_statements plan) plan.frags)

-- the line behind all clients, or the first fault
abbrev pub JudgesClients : Result ℕ PlanFault → ℕ → Plan → Draft → Type 0
JudgesClients (Ok line) n plan d =
    let ss = map (client_statement plan) plan.clients in Judges (Ok line) n d ss × IsBehindClients plan plan.clients (fold and_then d ss)
JudgesClients (Err fault) n plan d = Judges (Err fault) n d (map (client_statement plan) plan.clients)

-- a plan whose phases begin
pub record IsBegun (plan : Plan) (d : Draft) : Type 0 where
  pub fs : List FragSpec
  pub clients : List ClientSpec
  pub draft : d ≡ record (declaring plan plan.sources fs clients) { begun = true }

-- the line behind `begin`, or the first fault of a plan
abbrev pub JudgesPlan : Result ℕ PlanFault → Plan → Type 0
JudgesPlan (Ok line) plan =
    let ss = statements_of (bare plan) in Judges (Ok line) 1 nothing_yet ss × IsBegun plan (fold and_then nothing_yet ss)
JudgesPlan (Err fault) plan = Judges (Err fault) 1 nothing_yet (statements_of (bare plan))
