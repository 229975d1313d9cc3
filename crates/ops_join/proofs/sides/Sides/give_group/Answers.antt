use Rattle.std.proofs.Common.{◌≡◌, length, rules}
use Rattle.dpc_model.specs.Fragments.{at_port}
use Rattle.ops_join.proofs.Giving.{late-rows-are, new-rows-are}
use Rattle.ops_join.proofs.Givings.{takes-as, takes-then, first-as, first-then, first-longer, first-of, on-err}
use Rattle.ops_join.proofs.sides.Sides.give_group.Goals as goal

pub returns-in_err-give_late-clause-first : goal.returns-in_err-give_late-clause-first
returns-in_err-give_late-clause-first g c =
    let self = c.args.self.now in
    let known : c.len-known_right.result ≡ length self.right = search rules in
    on-err _ (first-longer (g.R.RowSink.took c.args.sink.now c.args.out.now) (g.R.RowSink.took c.give_late.new.sink c.give_late.new.out) _ _ (first-as (g.R.RowSink.took c.args.sink.now c.args.out.now) (g.R.RowSink.took c.give_late.new.sink c.give_late.new.out) _ _ (late-rows-are c.args.within c.len-known_right.result self c.take.new.self (at_port 1 c.args.inputs.now) c.in_ok-take.ensures.taken known) c.in_err-give_late.ensures.first))

pub returns-in_err-take-2-clause-first : goal.returns-in_err-take-2-clause-first
returns-in_err-take-2-clause-first g c =
    let self = c.args.self.now in
    let known : c.len-known_right.result ≡ length self.right = search rules in
    on-err _ (first-of (g.R.RowSink.took c.args.sink.now c.args.out.now) (g.R.RowSink.took c.give_late.new.sink c.give_late.new.out) _ _ (takes-as (g.R.RowSink.took c.args.sink.now c.args.out.now) (g.R.RowSink.took c.give_late.new.sink c.give_late.new.out) _ _ (late-rows-are c.args.within c.len-known_right.result self c.take.new.self (at_port 1 c.args.inputs.now) c.in_ok-take.ensures.taken known) c.in_ok-give_late.ensures.rows))

pub returns-in_err-give_left-clause-first : goal.returns-in_err-give_left-clause-first
returns-in_err-give_left-clause-first g c =
    let self = c.args.self.now in
    let known : c.len-known_right.result ≡ length self.right = search rules in
    let known_left : c.len-known_left.result ≡ length c.take.new.self.left = search rules in
    let late = takes-as (g.R.RowSink.took c.args.sink.now c.args.out.now) (g.R.RowSink.took c.give_late.new.sink c.give_late.new.out) _ _ (late-rows-are c.args.within c.len-known_right.result self c.take.new.self (at_port 1 c.args.inputs.now) c.in_ok-take.ensures.taken known) c.in_ok-give_late.ensures.rows in
    on-err _ (first-then (g.R.RowSink.took c.args.sink.now c.args.out.now) (g.R.RowSink.took c.give_late.new.sink c.give_late.new.out) (g.R.RowSink.took c.give_left.new.sink c.give_left.new.out) _ _ late
    (first-as (g.R.RowSink.took c.give_late.new.sink c.give_late.new.out) (g.R.RowSink.took c.give_left.new.sink c.give_left.new.out) _ _ (new-rows-are c.args.within c.len-known_left.result self c.take.new.self c.take-2.new.self (at_port 1 c.args.inputs.now) (at_port 0 c.args.inputs.now) c.left-2.result.now.items c.in_ok-take.ensures.taken c.in_ok-take-2.ensures.taken known_left c.left-2.ensures) c.in_err-give_left.ensures.first))

pub returns-clause-rows : goal.returns-clause-rows
returns-clause-rows g c =
    let self = c.args.self.now in
    let known : c.len-known_right.result ≡ length self.right = search rules in
    let known_left : c.len-known_left.result ≡ length c.take.new.self.left = search rules in
    let late = takes-as (g.R.RowSink.took c.args.sink.now c.args.out.now) (g.R.RowSink.took c.give_late.new.sink c.give_late.new.out) _ _ (late-rows-are c.args.within c.len-known_right.result self c.take.new.self (at_port 1 c.args.inputs.now) c.in_ok-take.ensures.taken known) c.in_ok-give_late.ensures.rows in
    takes-then (g.R.RowSink.took c.args.sink.now c.args.out.now) (g.R.RowSink.took c.give_late.new.sink c.give_late.new.out) (g.R.RowSink.took c.give_left.new.sink c.give_left.new.out) _ _ late
    (takes-as (g.R.RowSink.took c.give_late.new.sink c.give_late.new.out) (g.R.RowSink.took c.give_left.new.sink c.give_left.new.out) _ _ (new-rows-are c.args.within c.len-known_left.result self c.take.new.self c.take-2.new.self (at_port 1 c.args.inputs.now) (at_port 0 c.args.inputs.now) c.left-2.result.now.items c.in_ok-take.ensures.taken c.in_ok-take-2.ensures.taken known_left c.left-2.ensures) c.in_ok-give_left.ensures.rows)
