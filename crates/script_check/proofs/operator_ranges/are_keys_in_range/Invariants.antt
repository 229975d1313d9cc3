use Rattle.std.proofs.Common.{◌≡◌, true, take, ℕ, ◌&&◌}
use Rattle.dpc_lists.specs.Lists.{list_all}
use Rattle.script_rules.specs.Checking.{is_u64}
use Rattle.script_check.proofs.operator_ranges.are_keys_in_range.Given as goal

abbrev pub invariant-loop-key : goal.invariant-loop-key
invariant-loop-key l = list_all (λ (pair : ℕ × ℕ). is_u64 pair.0 && is_u64 pair.1) (take l.key-index l.keys) ≡ true
