use Rattle.std.proofs.Common.{ℕ, List, ◌∙◌, ap}
use Rattle.std.specs.List.{flat_map}
use Rattle.ops_join.specs.Sides.{row_at}
use Rattle.ops_join.proofs.Places.{late-rows, late-inside}
use Rattle.ops_join.proofs.Steps.{late-are}
use Rattle.ops_join.proofs.sides.Sides.late_rows.Goals as goal

pub rows_of-requires : goal.rows_of-requires
rows_of-requires c =
    let self = c.args.self.now in
    rw (late-are c.args.within self.keys self.left self.right c.args.from c.in_ok-late_pairs.field-0.items c.in_ok-pairs.pairs.items c.as_slice.result.now c.in_ok-late_pairs.ensures c.in_ok-pairs.ensures c.as_slice.ensures.value)
    (late-inside c.args.within self.keys self.left self.right c.args.from c.requires)

pub returns : goal.returns
returns c =
    let self = c.args.self.now in
    c.in_ok-rows.ensures
    ∙ ap (λ (pairs : List (ℕ × ℕ)). flat_map (row_at self.left self.right) pairs)
    (late-are c.args.within self.keys self.left self.right c.args.from c.in_ok-late_pairs.field-0.items c.in_ok-pairs.pairs.items c.as_slice.result.now c.in_ok-late_pairs.ensures c.in_ok-pairs.ensures c.as_slice.ensures.value)
    ∙ late-rows c.args.within self.keys self.left self.right c.args.from
