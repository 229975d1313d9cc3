use Rattle.std.proofs.Common.{◌≡◌, ◌+◌, ◌-◌, ◌∙◌, ◌++◌, take, drop, ap, sym, arith}
use Rattle.std.proofs.lemmas.Grind.{common_steps}
use Rattle.std.proofs.lemmas.List.{take_all}
use Rattle.ops_join.specs.Groups.{tagged_below}
use Rattle.ops_join.proofs.Groups.{rows_of, reached-none, reached-rest, group-some, group-taken, group-reached, group-adds}
use Rattle.ops_join.proofs.Giving.{taken-none, taken-more, group-of, rows-none}
use Rattle.ops_join.proofs.Givings.{takes-none, takes-as, takes-then, first-as, first-of, first-then, first-longer, on-err}
use Rattle.ops_join.proofs.sides.Sides.give_added.Goals as goal

pub loop-done-init : goal.loop-done-init
loop-done-init g c =
    let self = c.args.self.now in
    record {
      reached = reached-none c.args.within self.keys self.left self.right c.args.inputs.now c.requires;
      state = taken-none self;
      rows = takes-as (g.R.RowSink.took c.args.sink.now c.args.out.now) (g.R.RowSink.took c.args.sink.now c.args.out.now) _ _ (sym (rows-none c.args.within self.keys self.left self.right)) (takes-none (g.R.RowSink.took c.args.sink.now c.args.out.now));
    }

pub returns-in_default-clause-first : goal.returns-in_default-clause-first
returns-in_default-clause-first g c =
    let self = c.args.self.now in
    let rest = reached-rest c.args.within self.keys self.left self.right c.args.inputs.now c.loop-done.done c.loop-done.invariant.reached in
    first-as (g.R.RowSink.took c.args.sink.now c.args.out.now) (g.R.RowSink.took c.loop-done.sink c.loop-done.out) _ _ (sym rest.1) (first-of (g.R.RowSink.took c.args.sink.now c.args.out.now) (g.R.RowSink.took c.loop-done.sink c.loop-done.out) _ rest.0 c.loop-done.invariant.rows)

pub part-group-requires-clause-order : goal.part-group-requires-clause-order
part-group-requires-clause-order g c =
    let self = c.args.self.now in
    let x = c.index-inputs-done.result in
    let later : c.in-Some.later ≡ x.tuple.stime + 1 = grind (arith, common_steps) in
    let count : c.count_below-next.result ≡ tagged_below (x.tuple.stime + 1) c.args.inputs.now = c.count_below-next.ensures.count ∙ ap (λ b. tagged_below b c.args.inputs.now) later in
    let some = group-some c.args.within self.keys self.left self.right c.args.inputs.now c.loop-done.done c.loop-done.invariant.reached x c.count_below-next.result c.loop-done-test.true c.index-inputs-done.is count in
    omega (arith, some)

pub returns-in_err-give_group-clause-first : goal.returns-in_err-give_group-clause-first
returns-in_err-give_group-clause-first g c =
    let self = c.args.self.now in
    let w = c.args.within in
    let xs = c.args.inputs.now in
    let done = c.loop-done.done in
    let next = c.count_below-next.result in
    let reached = c.loop-done.invariant.reached in
    let x = c.index-inputs-done.result in
    let low = c.loop-done-test.true in
    let later : c.in-Some.later ≡ x.tuple.stime + 1 = grind (arith, common_steps) in
    let count : next ≡ tagged_below (x.tuple.stime + 1) xs = c.count_below-next.ensures.count ∙ ap (λ b. tagged_below b xs) later in
    let adds = group-adds w self.keys self.left self.right xs done reached x next low c.index-inputs-done.is count in
    let rest = reached-rest w self.keys self.left self.right xs next (group-reached w self.keys self.left self.right xs done reached x next low c.index-inputs-done.is count) in
    let group = group-of w self c.loop-done.self (take done xs) (take (next - done) (drop done xs)) c.part-group.result.now c.loop-done.invariant.state c.part-group.ensures in
    on-err _
    (first-as (g.R.RowSink.took c.args.sink.now c.args.out.now) (g.R.RowSink.took c.give_group.new.sink c.give_group.new.out) _ _ (sym rest.1) (first-longer (g.R.RowSink.took c.args.sink.now c.args.out.now) (g.R.RowSink.took c.give_group.new.sink c.give_group.new.out) _ _ (first-as (g.R.RowSink.took c.args.sink.now c.args.out.now) (g.R.RowSink.took c.give_group.new.sink c.give_group.new.out) _ _ (sym adds) (first-then (g.R.RowSink.took c.args.sink.now c.args.out.now) (g.R.RowSink.took c.loop-done.sink c.loop-done.out) (g.R.RowSink.took c.give_group.new.sink c.give_group.new.out) _ _ c.loop-done.invariant.rows (first-as (g.R.RowSink.took c.loop-done.sink c.loop-done.out) (g.R.RowSink.took c.give_group.new.sink c.give_group.new.out) _ _ group c.in_err-give_group.ensures.first)))))

pub loop-done-smaller : goal.loop-done-smaller
loop-done-smaller g c =
    let self = c.args.self.now in
    let x = c.index-inputs-done.result in
    let later : c.in-Some.later ≡ x.tuple.stime + 1 = grind (arith, common_steps) in
    let count : c.count_below-next.result ≡ tagged_below (x.tuple.stime + 1) c.args.inputs.now = c.count_below-next.ensures.count ∙ ap (λ b. tagged_below b c.args.inputs.now) later in
    let some = group-some c.args.within self.keys self.left self.right c.args.inputs.now c.loop-done.done c.loop-done.invariant.reached x c.count_below-next.result c.loop-done-test.true c.index-inputs-done.is count in
    let within = c.count_below-next.ensures.within in
    omega (arith, some, within)

pub loop-done-preserved : goal.loop-done-preserved
loop-done-preserved g c =
    let self = c.args.self.now in
    let w = c.args.within in
    let xs = c.args.inputs.now in
    let done = c.loop-done.done in
    let next = c.count_below-next.result in
    let reached = c.loop-done.invariant.reached in
    let x = c.index-inputs-done.result in
    let low = c.loop-done-test.true in
    let later : c.in-Some.later ≡ x.tuple.stime + 1 = grind (arith, common_steps) in
    let count : next ≡ tagged_below (x.tuple.stime + 1) xs = c.count_below-next.ensures.count ∙ ap (λ b. tagged_below b xs) later in
    let adds = group-adds w self.keys self.left self.right xs done reached x next low c.index-inputs-done.is count in
    let slice = take (next - done) (drop done xs) in
    let group = group-of w self c.loop-done.self (take done xs) slice c.part-group.result.now c.loop-done.invariant.state c.part-group.ensures in
    record {
      reached = group-reached w self.keys self.left self.right xs done reached x next low c.index-inputs-done.is count;
      state =
          taken-more self c.loop-done.self c.give_group.new.self (take done xs) c.part-group.result.now (take next xs) c.loop-done.invariant.state c.in_ok-give_group.ensures.taken
          (group-taken w self.keys self.left self.right xs done reached x next low c.index-inputs-done.is count ∙ ap (λ ys. take done xs ++ ys) (sym c.part-group.ensures));
      rows = takes-as (g.R.RowSink.took c.args.sink.now c.args.out.now) (g.R.RowSink.took c.give_group.new.sink c.give_group.new.out) _ _ (sym adds) (takes-then (g.R.RowSink.took c.args.sink.now c.args.out.now) (g.R.RowSink.took c.loop-done.sink c.loop-done.out) (g.R.RowSink.took c.give_group.new.sink c.give_group.new.out) _ _ c.loop-done.invariant.rows (takes-as (g.R.RowSink.took c.loop-done.sink c.loop-done.out) (g.R.RowSink.took c.give_group.new.sink c.give_group.new.out) _ _ group c.in_ok-give_group.ensures.rows));
    }

pub returns-clause-rows : goal.returns-clause-rows
returns-clause-rows g c =
    let self = c.args.self.now in
    let whole = take_all c.loop-done.done c.args.inputs.now c.loop-done-test.false in
    takes-as (g.R.RowSink.took c.args.sink.now c.args.out.now) (g.R.RowSink.took c.loop-done.sink c.loop-done.out) _ _ (ap (rows_of c.args.within self.keys self.left self.right c.args.inputs.now) whole) c.loop-done.invariant.rows
