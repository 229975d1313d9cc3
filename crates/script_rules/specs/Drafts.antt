-- What the lines of a script say so far.
use Rattle.std.specs.Prelude.{ℕ, ◌-◌, ◌^◌, Bool, true, false, ◌&&◌, ◌||◌, ◌==◌, if◌then◌else◌, List, [], ◌++◌, map, length, flat_map, Option, Some, None, unwrap_or, option_map, bytes_eq}
use Rattle.dpc_lists.specs.Lists.{nth, push, changed, place_of, last_or}
use Rattle.dpc_model.specs.Words.{Word}
use Rattle.dpc_model.specs.Actors.{roles_of}
use Rattle.dpc_model.specs.ScriptText.{role_name, stream_name}
use Rattle.dpc_model.specs.declared.tuples.Tuple.{Tuple}
use Rattle.dpc_model.specs.declared.operators.Wire.{Wire}
use Rattle.dpc_model.specs.declared.operators.Wire.TheVariants.{Port, Op}
use Rattle.dpc_model.specs.declared.operators.OpSpec.{OpSpec}
use Rattle.dpc_model.specs.declared.plans.SourceSpec.{SourceSpec}
use Rattle.dpc_model.specs.declared.plans.FragSpec.{FragSpec}
use Rattle.dpc_model.specs.declared.plans.ClientSpec.{ClientSpec}
use Rattle.dpc_model.specs.declared.plans.Plan.{Plan}
use Rattle.dpc_model.specs.declared.plans.StreamRef.{StreamRef}
use Rattle.dpc_model.specs.declared.plans.StreamRef.TheVariants.{Source, Frag}
use Rattle.dpc_model.specs.declared.scripts.Directive.{Directive}
use Rattle.dpc_model.specs.declared.scripts.Directive.TheVariants.{Crash, Restart}
use Rattle.dpc_model.specs.declared.scripts.Phase.{Phase}
use Rattle.dpc_model.specs.declared.scripts.Script.{Script}
use Rattle.script_rules.specs.Statements.{Statement, HeaderLine, SourceLine, LogLine, FragmentLine, PatienceLine, OperatorLine, ClientLine, BeginLine, SendLine, LinkLine, NodeLine, TickLine, SettleLine}

-- a script under way: the numbers of the header's lines in order, what was declared, whether the phases have begun,
-- the phases, the directives that have no tick yet, and whether the script ends by settling
pub record Draft : Type 0 where
  pub header : List ℕ
  pub sources : List SourceSpec
  pub frags : List FragSpec
  pub clients : List ClientSpec
  pub begun : Bool
  pub phases : List Phase
  pub directives : List Directive
  pub settle : Bool

-- before the first line
abbrev pub nothing_yet : Draft
nothing_yet =
    record { header = []; sources = []; frags = []; clients = []; begun = false; phases = []; directives = []; settle = false }

-- ---- the header; version 1 until it is named

abbrev pub version_of : Draft → ℕ
version_of d = nth 1 d.header 0

abbrev pub is_wide : Draft → Bool
is_wide d = version_of d == 3

abbrev pub greatest_end : Draft → ℕ
greatest_end d = if is_wide d then 2 ^ 62 - 1 else 2 ^ 40 - 1

-- until it is named, the least that it can be
abbrev pub width_of : Draft → ℕ
width_of d = nth 1 d.header 1

-- until it is named, the greatest that it can be
abbrev pub end_of : Draft → ℕ
end_of d = nth (greatest_end d) d.header 3

-- version 2 has passing, and version 3 where its fifth line says so
abbrev pub is_passing : Draft → Bool
is_passing d = version_of d == 2 || (is_wide d && nth 0 d.header 4 == 1)

abbrev pub has_header : Draft → Bool
has_header d = length d.header == (if is_wide d then 5 else 4)

-- ---- names

abbrev pub op_names : FragSpec → List Word
op_names f = map (λ (op : OpSpec). op.name) f.ops

abbrev pub source_names : Draft → List Word
source_names d = map (λ (s : SourceSpec). s.name) d.sources

abbrev pub frag_names : Draft → List Word
frag_names d = map (λ (f : FragSpec). f.name) d.frags

-- all names that are taken
abbrev pub names : Draft → List Word
names d = source_names d ++ frag_names d ++ flat_map op_names d.frags ++ map (λ (c : ClientSpec). c.name) d.clients

abbrev pub place_of_name : Word → List Word → Option ℕ
place_of_name w ws = place_of (bytes_eq w) ws

abbrev pub or_else : {A : Type 0} → Option A → Option A → Option A
or_else (Some x) other = Some x
or_else None other = other

abbrev pub source_named : Draft → Word → Option ℕ
source_named d w = place_of_name w (source_names d)

-- the stream of that name
abbrev pub stream_named : Draft → Word → Option StreamRef
stream_named d w = or_else (option_map Source (source_named d w)) (option_map Frag (place_of_name w (frag_names d)))

-- the plan so far
abbrev pub plan_of : Draft → Plan
plan_of d =
    record {
      version = version_of d;
      passing = is_passing d;
      width = width_of d;
      delay = nth 0 d.header 2;
      end = end_of d;
      sources = d.sources;
      frags = d.frags;
      clients = d.clients;
    }

-- the fragment whose operators stand behind it
abbrev pub last_frag : Draft → FragSpec
last_frag d = unwrap_or (last_or None d.frags) (record { name = []; replicas = 0; delay = None; inputs = []; ops = [] })

-- what an operator of the last fragment may read by that name: a port, or an operator before it
abbrev pub wire_named : Draft → Word → Option Wire
wire_named d w =
    let f = last_frag d in
    or_else (option_map Port (place_of_name w (map (stream_name (plan_of d)) f.inputs))) (option_map Op (place_of_name w (op_names f)))

-- the number of the actor of that name
abbrev pub actor_named : Draft → Word → Option ℕ
actor_named d w = place_of_name w (map (role_name (plan_of d)) (roles_of (plan_of d)))

-- ---- a further line

-- the last element, changed
abbrev pub change_last : {X : Type 0} → (X → X) → List X → List X
change_last f xs = changed (length xs - 1) f xs

abbrev pub with_log : Tuple → SourceSpec → SourceSpec
with_log t s = record s { log = push s.log t }

abbrev pub with_delay : ℕ → FragSpec → FragSpec
with_delay delay f = record f { delay = Some delay }

abbrev pub with_op : OpSpec → FragSpec → FragSpec
with_op op f = record f { ops = push f.ops op }

abbrev pub with_directive : Draft → Directive → Draft
with_directive d x = record d { directives = push d.directives x }

-- what is said with a further line, where no reason refuses it
abbrev pub and_then : Draft → Statement → Draft
and_then d (HeaderLine place number) = record d { header = push d.header number }
and_then d (SourceLine name columns) = record d { sources = push d.sources (record { name = name; columns = columns; log = [] }) }
and_then d (LogLine source time vals) =
    record d { sources = changed (unwrap_or (source_named d source) 0) (with_log (record { stime = time; vals = vals })) d.sources }
and_then d (FragmentLine name replicas streams) =
    record d {
      frags = push d.frags (record {
        name = name;
        replicas = replicas;
        delay = None;
        inputs = map (λ w. unwrap_or (stream_named d w) (Source 0)) streams;
        ops = [];
      });
    }
and_then d (PatienceLine delay) = record d { frags = change_last (with_delay delay) d.frags }
and_then d (OperatorLine name inputs kind) =
    record d {
      frags = change_last (with_op (record { name = name; kind = kind; reads = map (λ w. unwrap_or (wire_named d w) (Port 0)) inputs })) d.frags;
    }
and_then d (ClientLine name stream) = record d { clients = push d.clients (record { name = name; input = unwrap_or (stream_named d stream) (Source 0) }) }
and_then d BeginLine = record d { begun = true }
and_then d (SendLine make source time) = with_directive d (make (unwrap_or (source_named d source) 0) time)
and_then d (LinkLine make a b) = with_directive d (make (unwrap_or (actor_named d a) 0) (unwrap_or (actor_named d b) 0))
and_then d (NodeLine true node) = with_directive d (Crash (unwrap_or (actor_named d node) 0))
and_then d (NodeLine false node) = with_directive d (Restart (unwrap_or (actor_named d node) 0))
and_then d (TickLine now) = record d { phases = push d.phases (record { directives = d.directives; now = now }); directives = [] }
and_then d SettleLine = record d { settle = true }

-- the script, once all is said
abbrev pub script_of : Draft → Script
script_of d = record { plan = plan_of d; phases = d.phases; settle = d.settle }
