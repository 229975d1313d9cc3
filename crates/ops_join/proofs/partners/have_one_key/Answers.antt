use Rattle.std.proofs.Common.{of_z, w64, sym, ◌∙◌, ap}
use Rattle.ops_join.proofs.Codes.{agree-apart}
use Rattle.ops_join.proofs.partners.have_one_key.Goals as goal

pub returns-then-column : goal.returns-then-column
returns-then-column c =
    agree-apart c.args.keys.now c.loop-pair.pair-index (0, 0) c.args.left.now c.args.right.now c.loop-pair-test.true
    (λ same. c.if-column.true (ap (of_z w64) (c.column.ensures ∙ same ∙ sym c.column-in-loop-pair.ensures)))
