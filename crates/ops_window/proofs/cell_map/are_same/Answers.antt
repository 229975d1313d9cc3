use Rattle.std.proofs.Common.{sym}
use Rattle.std.proofs.lemmas.Bool.{true≢false}
use Rattle.ops_window.proofs.Steps.{same_rest, other_totals}
use Rattle.ops_window.proofs.cell_map.are_same.Goals as goal

pub loop-key-preserved : goal.loop-key-preserved
loop-key-preserved c =
    same_rest c.args.cells.now c.args.others.now c.loop-key.key-iterator c.loop-key.rest c.next.new.self c.next-in-loop-key.new.self c.in-Some.key c.in-Some-next.other c.as_slice.result.now c.as_slice-then-eq.result.now c.loop-key.invariant
    (rw c.as_slice.ensures c.in-Some.ensures.steps)
    (rw c.as_slice-then-eq.ensures c.in-Some-next.ensures.steps)
    c.if-eq.ensures
    c.if-eq-2.ensures

pub returns-in_default : goal.returns-in_default
returns-in_default c = (
  (λ e. absurd (true≢false (sym e))),
  (λ e. absurd (other_totals c.args.cells.now c.args.others.now c.loop-key.key-iterator c.loop-key.rest c.next.new.self c.next-in-loop-key.new.self c.in-Some.key c.in-Some-next.other c.as_slice.result.now c.as_slice-then-eq.result.now c.loop-key.invariant
      (rw c.as_slice.ensures c.in-Some.ensures.steps)
      (rw c.as_slice-then-eq.ensures c.in-Some-next.ensures.steps)
      c.if-eq-2.ensures e)),
)
