use Rattle.std.proofs.Common.{◌≡◌, ℕ, to_z, of_z, w64, get_or, sym, ◌∙◌, ap, rules}
use Rattle.std.proofs.lemmas.List.Sums.{fold_more}
use Rattle.dpc_model.specs.Values.{column}
use Rattle.ops_join.specs.Sides.{mix, column_of}
use Rattle.ops_join.proofs.chains.code_of.Goals as goal

pub loop-pair-preserved : goal.loop-pair-preserved
loop-pair-preserved c =
    let t = c.args.tuple.now in
    let step = λ (h : ℕ) (pair : ℕ × ℕ). mix h (column t (column_of c.args.end pair)) in
    let back : to_z w64 (of_z w64 c.column-in-loop-pair.result) ≡ c.column-in-loop-pair.result = search rules in
    c.mixed-code.ensures
    ∙ ap (mix c.loop-pair.code) (back ∙ c.column-in-loop-pair.ensures ∙ ap (column t) c.column.ensures)
    ∙ ap (λ h. mix h (column t (column_of c.args.end (get_or c.args.keys.now c.loop-pair.pair-index (0, 0))))) c.loop-pair.invariant
    ∙ sym (fold_more step 0 c.args.keys.now c.loop-pair.pair-index (0, 0) c.loop-pair-test.true)
