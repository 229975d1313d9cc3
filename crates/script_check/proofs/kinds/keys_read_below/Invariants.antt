use Rattle.std.proofs.Common.{◌≡◌, true, take, ℕ, ◌&&◌}
use Rattle.dpc_lists.specs.Lists.{list_all}
use Rattle.std.specs.Prelude.{nat_lt}
use Rattle.script_check.proofs.kinds.keys_read_below.Given as goal

abbrev pub invariant-loop-key : goal.invariant-loop-key
invariant-loop-key l = list_all (λ (pair : ℕ × ℕ). nat_lt pair.0 l.left && nat_lt pair.1 l.right) (take l.key-index l.keys) ≡ true
