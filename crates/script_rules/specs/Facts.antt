-- What engines may rely on in a checked script.
use Rattle.std.specs.Prelude.{◌≡◌, ℕ, ◌/◌, ◌%◌, ◌^◌, ◌<◌, ◌≤◌, Bool, true, false, not, ◌&&◌, ◌==◌, nat_lt, nat_le, List, [], ◌∷◌, ◌++◌, map, length, flat_map, sum_by}
use Rattle.dpc_lists.specs.Lists.{list_any, list_all, push, is_nil}
use Rattle.dpc_model.specs.Words.{Word}
use Rattle.dpc_model.specs.Streams.{IsOrdered}
use Rattle.dpc_model.specs.Fragments.{IsSound}
use Rattle.dpc_model.specs.Actors.{role_of, are_linked, same_stream}
use Rattle.dpc_model.specs.Columns.{kind_columns, wire_columns, stream_columns}
use Rattle.dpc_model.specs.declared.tuples.Tuple.{Tuple}
use Rattle.dpc_model.specs.declared.operators.Wire.{Wire}
use Rattle.dpc_model.specs.declared.operators.Wire.TheVariants.{Port, Op}
use Rattle.dpc_model.specs.declared.operators.OpSpec.{OpSpec}
use Rattle.dpc_model.specs.declared.plans.SourceSpec.{SourceSpec}
use Rattle.dpc_model.specs.declared.plans.FragSpec.{FragSpec}
use Rattle.dpc_model.specs.declared.plans.ClientSpec.{ClientSpec}
use Rattle.dpc_model.specs.declared.plans.Plan.{Plan}
use Rattle.dpc_model.specs.declared.plans.StreamRef.{StreamRef}
use Rattle.dpc_model.specs.declared.plans.StreamRef.TheVariants.{Source, Frag}
use Rattle.dpc_model.specs.declared.scripts.Directive.{Directive}
use Rattle.dpc_model.specs.declared.scripts.Directive.TheVariants.{Emit, Release, Cut, Heal, Lose, Repeat, Crash, Restart}
use Rattle.dpc_model.specs.declared.scripts.Phase.{Phase}
use Rattle.dpc_model.specs.declared.scripts.Script.{Script}
use Rattle.script_rules.specs.Places.{is_between}
use Rattle.script_rules.specs.Reasons.{fits_inputs, is_too_large, is_node, has_twice}

-- every name of a plan
abbrev pub names_of : Plan → List Word
names_of plan =
    map (λ (s : SourceSpec). s.name) plan.sources ++ map (λ (f : FragSpec). f.name) plan.frags
    ++ flat_map (λ (f : FragSpec). map (λ (op : OpSpec). op.name) f.ops) plan.frags ++ map (λ (c : ClientSpec). c.name) plan.clients

-- a log lies below end, with a value for each column
abbrev pub log_fits : ℕ → SourceSpec → Bool
log_fits end s = list_all (λ (t : Tuple). nat_lt t.stime end && length t.vals == s.columns) s.log

abbrev pub is_there : Plan → StreamRef → Bool
is_there plan (Source s) = nat_lt s (length plan.sources)
is_there plan (Frag f) = nat_lt f (length plan.frags)

-- operator number i reads ports that are there, and operators before it
abbrev pub is_earlier : ℕ → ℕ → Wire → Bool
is_earlier ports i (Port p) = nat_lt p ports
is_earlier ports i (Op j) = nat_lt j i

-- the operators behind those whose columns stand: what they read is there, their columns fit, and they are not too large
abbrev pub ops_fit : List ℕ → List ℕ → List OpSpec → Bool
ops_fit ports outputs [] = true
ops_fit ports outputs (op ∷ ops) =
    list_all (is_earlier (length ports) (length outputs)) op.reads && fits_inputs op.kind (map (wire_columns ports outputs) op.reads)
    && nat_le (kind_columns op.kind (map (wire_columns ports outputs) op.reads)) 8 && not (is_too_large op.kind)
    && ops_fit ports (push outputs (kind_columns op.kind (map (wire_columns ports outputs) op.reads))) ops

abbrev pub frag_fits : Plan → FragSpec → Bool
frag_fits plan f = not (is_nil f.ops) && list_all (is_there plan) f.inputs && ops_fit (map (stream_columns plan) f.inputs) [] f.ops

-- sources, links and nodes that are there
abbrev pub directive_fits : Plan → Directive → Bool
directive_fits plan (Emit s t) = nat_lt s (length plan.sources)
directive_fits plan (Release s t) = nat_lt s (length plan.sources)
directive_fits plan (Cut a b) = are_linked plan a b
directive_fits plan (Heal a b) = are_linked plan a b
directive_fits plan (Lose a b) = are_linked plan a b
directive_fits plan (Repeat a b) = are_linked plan a b
directive_fits plan (Crash a) = is_node (role_of plan a)
directive_fits plan (Restart a) = is_node (role_of plan a)

-- no stream twice
abbrev pub reads_once : List StreamRef → Bool
reads_once [] = true
reads_once (s ∷ streams) = not (list_any (same_stream s) streams) && reads_once streams

-- 1 to 4 replicas, and 1 to 8 streams that are read
abbrev pub has_sizes : FragSpec → Bool
has_sizes f = is_between 1 4 f.replicas && is_between 1 8 (length f.inputs)

-- all but the columns that operators read, and what directives name
pub record HasForm (s : Script) : Type 0 where
  pub width : 0 < s.plan.width
  pub whole : s.plan.end % s.plan.width ≡ 0
  pub begins : s.plan.width ≤ s.plan.end
  pub ends : s.plan.end < 2 ^ 62
  pub few_buckets : s.plan.end / s.plan.width ≤ 10000
  -- logs are in order, windows have a size and a step, fragments read sources and fragments before them
  pub sound : IsSound s.plan
  pub sizes : list_all has_sizes s.plan.frags ≡ true
  -- what fragments and clients read is there
  pub inputs : list_all (λ (f : FragSpec). list_all (is_there s.plan) f.inputs) s.plan.frags ≡ true
  pub clients : list_all (λ (c : ClientSpec). is_there s.plan c.input) s.plan.clients ≡ true
  -- each log lies below end and has a value for each column; there are few entries in all
  pub logs : list_all (log_fits s.plan.end) s.plan.sources ≡ true
  pub few_entries : sum_by (λ (source : SourceSpec). length source.log) s.plan.sources ≤ 200000
  -- no fragment reads a stream twice
  pub once : list_all (λ (f : FragSpec). reads_once f.inputs) s.plan.frags ≡ true
  pub distinct : has_twice (names_of s.plan) ≡ false
  pub some_source : is_nil s.plan.sources ≡ false
  pub some_frag : is_nil s.plan.frags ≡ false
  pub some_client : is_nil s.plan.clients ≡ false
  pub clocks : IsOrdered (λ (p : Phase). p.now) s.phases
  pub few_phases : length s.phases ≤ 2000

pub record HasFacts (s : Script) : Type 0 where
  pub form : HasForm s
  pub frags : list_all (frag_fits s.plan) s.plan.frags ≡ true
  pub directives : list_all (directive_fits s.plan) (flat_map (λ (p : Phase). p.directives) s.phases) ≡ true
