-- How many columns streams have, as a draft by code keeps it.
use Rattle.std.specs.Prelude.{◌≡◌, ℕ, ◌-◌, Bool, true, nat_lt, nat_le, List, [], ◌∷◌, map, length, take, None, unwrap_or}
use Rattle.dpc_lists.specs.Lists.{nth, push, last_or, list_all}
use Rattle.dpc_model.specs.Columns.{columns_after, fragment_columns, stream_columns}
use Rattle.dpc_model.specs.declared.plans.SourceSpec.{SourceSpec}
use Rattle.dpc_model.specs.declared.plans.FragSpec.{FragSpec}
use Rattle.dpc_model.specs.declared.plans.StreamRef.{StreamRef}
use Rattle.dpc_model.specs.declared.plans.StreamRef.TheVariants.{Source, Frag}
use Rattle.script_rules.specs.Drafts.{Draft, plan_of, last_frag}

abbrev pub source_columns : List SourceSpec → List ℕ
source_columns sources = map (λ (s : SourceSpec). s.columns) sources

-- a stream's, by those of the sources and of the fragments
abbrev pub columns_in : List ℕ → List ℕ → StreamRef → ℕ
columns_in sources frags (Source s) = nth 0 sources s
columns_in sources frags (Frag f) = nth 0 frags f

-- those of fragments, behind those whose columns are done
abbrev pub outputs_behind : List ℕ → List ℕ → List FragSpec → List ℕ
outputs_behind sources done [] = done
outputs_behind sources done (f ∷ rest) = outputs_behind sources (push done (fragment_columns (map (columns_in sources done) f.inputs) f.ops)) rest

-- the last fragment, and those before it
abbrev pub last_of : List FragSpec → FragSpec
last_of fs = unwrap_or (last_or None fs) (record { name = []; replicas = 0; delay = None; inputs = []; ops = [] })

abbrev pub front_of : List FragSpec → List FragSpec
front_of fs = take (length fs - 1) fs

-- the columns of the ports and of the operators of the last fragment
abbrev pub ports_of : Draft → List ℕ
ports_of d = map (stream_columns (plan_of d)) (last_frag d).inputs

abbrev pub outs_of : Draft → List ℕ
outs_of d = columns_after (ports_of d) [] (last_frag d).ops

-- a stream of these many sources and fragments
abbrev pub is_among_streams : ℕ → ℕ → StreamRef → Bool
is_among_streams sources frags (Source s) = nat_lt s sources
is_among_streams sources frags (Frag f) = nat_lt f frags

abbrev pub are_few : List ℕ → Bool
are_few columns = list_all (λ n. nat_le n 8) columns

-- where sources have so many: those of the fragments before the last one, and of its ports and operators
pub record AreColumns (sources : List ℕ) (frags : List FragSpec) (earlier ports outs : List ℕ) : Type 0 where
  pub earlier_is : earlier ≡ outputs_behind sources [] (front_of frags)
  pub ports_is : ports ≡ map (columns_in sources earlier) (last_of frags).inputs
  pub outs_is : outs ≡ columns_after ports [] (last_of frags).ops
  -- the last fragment reads sources and fragments before it
  pub inputs : list_all (is_among_streams (length sources) (length (front_of frags))) (last_of frags).inputs ≡ true
  pub few_sources : are_few sources ≡ true
  pub few_earlier : are_few earlier ≡ true
  pub few_ports : are_few ports ≡ true
  pub few_outs : are_few outs ≡ true
