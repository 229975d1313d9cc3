-- The logs of sources, one behind another.
use Rattle.std.specs.Prelude.{◌≡◌, ℕ, ◌-◌, false, List, [], ◌∷◌, ◌++◌, length, sum_by}
use Rattle.dpc_model.specs.declared.tuples.Tuple.{Tuple}
use Rattle.dpc_model.specs.declared.plans.SourceSpec.{SourceSpec}
use Rattle.dpc_model.specs.declared.plans.Plan.{Plan}
use Rattle.script_rules.specs.Statements.{Statement, LogLine}
use Rattle.script_rules.specs.Reasons.{is_among}
use Rattle.script_check.specs.Judging.{told}
use Rattle.script_check.specs.Locals.{named_sources}

-- how many more entries there may be behind these sources
abbrev pub room_behind : List SourceSpec → ℕ
room_behind sources = 200000 - sum_by (λ (s : SourceSpec). length s.log) sources

-- these sources, and a further one with a log of its own
abbrev pub with_source : List SourceSpec → SourceSpec → List Tuple → List SourceSpec
with_source before source log = before ++ record source { log = log } ∷ []

abbrev pub entry_of : SourceSpec → Tuple → Statement
entry_of source t = LogLine source.name t.stime t.vals

-- the log of a source begins at line n, behind these sources
pub record BeginsLog (plan : Plan) (before : List SourceSpec) (source : SourceSpec) (end columns room line n : ℕ) : Type 0 where
  pub ends : end ≡ plan.end
  pub counts : columns ≡ source.columns
  pub left : room ≡ room_behind before
  pub at : line ≡ told n
  pub fresh : is_among source.name (named_sources before) ≡ false
