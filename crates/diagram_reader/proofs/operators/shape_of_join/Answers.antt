use Rattle.std.proofs.Common.{ℕ}
use Rattle.std.specs.Prelude.{nat_lt}
use Rattle.script_words.specs.Cursors.{words_left}
use Rattle.diagram_reader.proofs.OperatorLines.{numerals_behind, keys_more}
use Rattle.diagram_reader.proofs.operators.shape_of_join.Goals as goal

pub loop-first-preserved : goal.loop-first-preserved
loop-first-preserved c =
    let first = c.in-Some.ensures.word in
    let second = c.in-Some-next.ensures.word in
    let now = words_left c.loop-first.keys in
    let behind = words_left c.next-in-Some.new.self in (
      numerals_behind _ _ now _ behind first second c.loop-first.invariant.0,
      λ n low. rw c.max-left.ensures (keys_more (λ (key : ℕ × ℕ). nat_lt key.0 n) n c.loop-first.left _ c.in-Some.first.now c.in-Some-next.second.now now _ behind _ first second (c.columns_of_key.ensures n low) (c.loop-first.invariant.1 n low)),
      λ n low. rw c.max-right.ensures (keys_more (λ (key : ℕ × ℕ). nat_lt key.1 n) n c.loop-first.right _ c.in-Some.first.now c.in-Some-next.second.now now _ behind _ first second (c.columns_of_key-in-Some.ensures n low) (c.loop-first.invariant.2 n low)),
    )
