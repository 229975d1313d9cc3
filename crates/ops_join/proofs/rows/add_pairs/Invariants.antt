use Rattle.std.proofs.Common.{◌≡◌, ℕ, ◌++◌, map, reverse, length}
use Rattle.ops_join.proofs.rows.add_pairs.Given as goal

abbrev pub invariant-loop-place : goal.invariant-loop-place
invariant-loop-place l =
    l.pairs.items ++ map (λ (p : ℕ). (p, l.right)) (reverse l.places.items) ≡ l.initial.pairs.items ++ map (λ (p : ℕ). (p, l.right)) (reverse l.initial.places.items)

abbrev pub decreases-loop-place : goal.decreases-loop-place
decreases-loop-place l = length l.places.items
