use Rattle.std.proofs.Common.{ap, sym, ◌∙◌}
use Rattle.back_channel.specs.Merging.{last_time, not_below}
use Rattle.back_channel.proofs.Times.{last-late, none-last, popped-kept, popped-begins}
use Rattle.back_channel.proofs.side.drop_last_below.Goals as goal

pub returns-then-last-time-clause-last : goal.returns-then-last-time-clause-last
returns-then-last-time-clause-last c =
    sym (last-late c.args.time c.in-Some.last c.loop-last.tuples.items (ap last_time (sym c.as_slice.ensures.value) ∙ sym (c.in-Some.ensures {u = tt})) c.if-last-time.true)

pub loop-last-preserved-else-last-time : goal.loop-last-preserved-else-last-time
loop-last-preserved-else-last-time c = record {
  kept = popped-kept c.args.time c.loop-last.tuples.items c.pop.new.self.items c.pop.result c.in-Some.last c.pop.ensures.items (ap last_time (sym c.as_slice.ensures.value) ∙ sym (c.in-Some.ensures {u = tt})) c.if-last-time.false ∙ c.loop-last.invariant.kept;
  begins = popped-begins c.args.tuples.now.items c.loop-last.tuples.items c.pop.new.self.items c.pop.result c.pop.ensures.items c.loop-last.invariant.begins;
}

pub loop-last-preserved-else-last-time-2 : goal.loop-last-preserved-else-last-time-2
loop-last-preserved-else-last-time-2 c = record {
  kept = popped-kept c.args.time c.loop-last.tuples.items c.pop.new.self.items c.pop.result c.in-Some.last c.pop.ensures.items (ap last_time (sym c.as_slice.ensures.value) ∙ sym (c.in-Some.ensures {u = tt})) c.if-last-time.false ∙ c.loop-last.invariant.kept;
  begins = popped-begins c.args.tuples.now.items c.loop-last.tuples.items c.pop.new.self.items c.pop.result c.pop.ensures.items c.loop-last.invariant.begins;
}

pub returns-clause-last : goal.returns-clause-last
returns-clause-last c =
    let none = none-last c.loop-last.tuples.items (ap last_time (sym c.as_slice.ensures.value) ∙ sym (c.in_default.ensures {u = tt})) in
    sym (ap (λ ts. last_time (not_below c.args.time ts)) none)
