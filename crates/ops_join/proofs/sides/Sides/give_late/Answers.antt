use Rattle.std.proofs.Common.{◌≡◌, ℕ, List, ◌∙◌, ap}
use Rattle.std.specs.List.{flat_map}
use Rattle.dpc_model.specs.Fragments.{at_port}
use Rattle.ops_join.specs.declared.ends.End.TheVariants.{Right}
use Rattle.ops_join.specs.Sides.{row_at, taken, new_sides}
use Rattle.ops_join.proofs.Places.{late-rows, late-inside}
use Rattle.ops_join.proofs.Steps.{late-are}
use Rattle.ops_join.proofs.Giving.{fresh-rows}
use Rattle.ops_join.proofs.Givings.{takes-as, first-as, on-err}
use Rattle.ops_join.proofs.sides.Sides.give_late.Goals as goal

pub give_pairs-requires : goal.give_pairs-requires
give_pairs-requires g c =
    let self = c.args.self.now in
    rw (late-are c.args.within self.keys self.left self.right c.args.from c.in-Some.pairs.items c.in_ok-pairs-2.pairs.items c.as_slice.result.now (rw c.in-Some.is at c.in_ok-pairs.ensures) c.in_ok-pairs-2.ensures c.as_slice.ensures.value)
    (late-inside c.args.within self.keys self.left self.right c.args.from c.requires.from)

pub returns-in_err-give_pairs-clause-first : goal.returns-in_err-give_pairs-clause-first
returns-in_err-give_pairs-clause-first g c =
    let self = c.args.self.now in
    let rows = ap (λ (pairs : List (ℕ × ℕ)). flat_map (row_at self.left self.right) pairs)
    (late-are c.args.within self.keys self.left self.right c.args.from c.in-Some.pairs.items c.in_ok-pairs-2.pairs.items c.as_slice.result.now (rw c.in-Some.is at c.in_ok-pairs.ensures) c.in_ok-pairs-2.ensures c.as_slice.ensures.value)
    ∙ late-rows c.args.within self.keys self.left self.right c.args.from in
    on-err _ (first-as _ _ _ _ rows c.in_err-give_pairs.ensures.first)

pub returns-in-Some-clause-rows : goal.returns-in-Some-clause-rows
returns-in-Some-clause-rows g c =
    let self = c.args.self.now in
    let rows = ap (λ (pairs : List (ℕ × ℕ)). flat_map (row_at self.left self.right) pairs)
    (late-are c.args.within self.keys self.left self.right c.args.from c.in-Some.pairs.items c.in_ok-pairs-2.pairs.items c.as_slice.result.now (rw c.in-Some.is at c.in_ok-pairs.ensures) c.in_ok-pairs-2.ensures c.as_slice.ensures.value)
    ∙ late-rows c.args.within self.keys self.left self.right c.args.from in
    takes-as (g.R.RowSink.took c.args.sink.now c.args.out.now) (g.R.RowSink.took c.give_pairs.new.sink c.give_pairs.new.out) _ _ rows c.in_ok-give_pairs.ensures.rows

pub returns-in_err-give_left-clause-first : goal.returns-in_err-give_left-clause-first
returns-in_err-give_left-clause-first g c =
    let self = c.args.self.now in
    let state : c.take.new.self ≡ taken Right (at_port 1 c.args.inputs.now) (new_sides self.keys) = c.in_ok-take.ensures.taken ∙ ap (taken Right (at_port 1 c.args.inputs.now)) c.in_ok-late.ensures in
    on-err _ (first-as _ _ _ _ (fresh-rows c.args.within c.take.new.self self.keys (at_port 1 c.args.inputs.now) _ self.left c.left.result.now.items state c.requires.inputs c.left.ensures) c.in_err-give_left.ensures.first)

pub returns-clause-rows : goal.returns-clause-rows
returns-clause-rows g c =
    let self = c.args.self.now in
    let state : c.take.new.self ≡ taken Right (at_port 1 c.args.inputs.now) (new_sides self.keys) = c.in_ok-take.ensures.taken ∙ ap (taken Right (at_port 1 c.args.inputs.now)) c.in_ok-late.ensures in
    takes-as (g.R.RowSink.took c.args.sink.now c.args.out.now) (g.R.RowSink.took c.give_left.new.sink c.give_left.new.out) _ _ (fresh-rows c.args.within c.take.new.self self.keys (at_port 1 c.args.inputs.now) _ self.left c.left.result.now.items state c.requires.inputs c.left.ensures) c.in_ok-give_left.ensures.rows
