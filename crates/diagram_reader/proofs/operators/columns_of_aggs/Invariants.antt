use Rattle.std.proofs.Common.{◌≡◌, ℕ, ◌≤◌, take}
use Rattle.std.specs.Prelude.{nat_le}
use Rattle.dpc_lists.specs.Lists.{list_all}
use Rattle.script_rules.specs.Reasons.{agg_reads_below}
use Rattle.diagram_reader.proofs.operators.columns_of_aggs.Given as goal

-- those of the aggregates so far
abbrev pub invariant-loop-agg : goal.invariant-loop-agg
invariant-loop-agg l = (n : ℕ) → n ≤ 8 → list_all (agg_reads_below n) (take l.agg-index l.aggs) ≡ nat_le l.columns n
