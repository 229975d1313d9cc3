-- What a draft by code keeps beside what was said.
use Rattle.std.specs.Prelude.{◌≡◌, ℕ, ◌^◌, ◌<◌, ◌≤◌, true, false, nat_le, List, ◌++◌, length, flat_map, sum_by, fold, Option, Some, None, Result, Ok, Err}
use Rattle.dpc_lists.specs.Lists.{has, list_all}
use Rattle.dpc_model.specs.Words.{Word}
use Rattle.dpc_model.specs.declared.plans.SourceSpec.{SourceSpec}
use Rattle.dpc_model.specs.declared.plans.FragSpec.{FragSpec}
use Rattle.dpc_model.specs.declared.scripts.Directive.{Directive}
use Rattle.dpc_model.specs.declared.scripts.Phase.{Phase}
use Rattle.script_rules.specs.declared.reasons.Reason.{Reason}
use Rattle.script_rules.specs.Drafts.{Draft, source_named}
use Rattle.script_rules.specs.Reasons.{down_after, source_at}

-- the entries of all logs are counted, and are few
pub record CountsEntries (sources : List SourceSpec) (entries : ℕ) : Type 0 where
  pub count : entries ≡ sum_by (λ (s : SourceSpec). length s.log) sources
  pub few : entries ≤ 200000

-- the numbers of the nodes that are down behind these directives
abbrev pub AreDown : List Phase → List Directive → List ℕ → Type 0
AreDown phases directives down = (a : ℕ) → has down a ≡ fold (down_after a) false (flat_map (λ (p : Phase). p.directives) phases ++ directives)

-- at most 16 fragments of at most 4 replicas
pub record HasFewNodes (fs : List FragSpec) : Type 0 where
  pub frags : length fs ≤ 16
  pub replicas : list_all (λ (f : FragSpec). nat_le f.replicas 4) fs ≡ true

-- what a test found: a value, or the reason against it
abbrev pub fault_in : {X : Type 0} → Result X Reason → Option Reason
fault_in (Ok x) = None
fault_in (Err reason) = Some reason

-- a number as it was read: none stands for every number that is too large for the type
abbrev pub StandsFor : Option ℕ → ℕ → Type 0
StandsFor (Some n) m = m ≡ n
StandsFor None m = 2 ^ 64 ≤ m

-- the source of a name: its number, and what it is
pub record IsSourceAt (d : Draft) (name : Word) (number : ℕ) (source : SourceSpec) : Type 0 where
  pub named : source_named d name ≡ Some number
  pub there : number < length d.sources
  pub is : source_at d name ≡ source
