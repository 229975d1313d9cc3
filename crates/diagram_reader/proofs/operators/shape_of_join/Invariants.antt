use Rattle.std.proofs.Common.{◌≡◌, ℕ, ◌≤◌, true, map, length, ◌&&◌}
use Rattle.std.specs.Prelude.{nat_le, nat_lt}
use Rattle.dpc_lists.specs.Lists.{list_all}
use Rattle.script_rules.specs.Spelling.{is_numeral, number}
use Rattle.script_rules.specs.Statements.{pairs}
use Rattle.script_words.specs.Cursors.{words_left}
use Rattle.diagram_reader.proofs.operators.shape_of_join.Given as goal

-- those of the keys so far, and the keys that are left
abbrev pub invariant-loop-first : goal.invariant-loop-first
invariant-loop-first l =
    (list_all is_numeral (words_left l.keys) ≡ true)
    × ((n : ℕ) → n ≤ 8 → (nat_le l.left n && list_all (λ (key : ℕ × ℕ). nat_lt key.0 n) (pairs (map number (words_left l.keys)))) ≡ list_all (λ (key : ℕ × ℕ). nat_lt key.0 n) (pairs (map number (words_left l.fn.keys))))
    × ((n : ℕ) → n ≤ 8 → (nat_le l.right n && list_all (λ (key : ℕ × ℕ). nat_lt key.1 n) (pairs (map number (words_left l.keys)))) ≡ list_all (λ (key : ℕ × ℕ). nat_lt key.1 n) (pairs (map number (words_left l.fn.keys))))

abbrev pub decreases-loop-first : goal.decreases-loop-first
decreases-loop-first l = length (words_left l.keys)
