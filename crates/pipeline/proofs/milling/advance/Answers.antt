use Rattle.std.proofs.Common.{◌≡◌, ◌<◌, List, sym, subst, arith}
use Rattle.dpc_model.specs.declared.tuples.Tuple.{Tuple}
use Rattle.pipeline.specs.Running.{HasAdvanced}
use Rattle.pipeline.proofs.Work.{work-still, work-advanced}
use Rattle.pipeline.proofs.milling.advance.Goals as goal

pub returns-then-count-eq0-clause-advanced : goal.returns-then-count-eq0-clause-advanced
returns-then-count-eq0-clause-advanced c = λ ops x h can.
    let u = c.args.inputs.now in
    let none : c.args.count ≡ 0 = omega arith in
    subst (λ (ts : List Tuple). HasAdvanced ops c.advance.new.self c.args.keeper.now u.width x c.args.count ts) (sym c.new.ensures.items)
    (work-still ops u c.advance.new.self c.args.keeper.now x c.args.count none c.advance.ensures.fixed.0 (c.advance.ensures.after x h.ports) h)

pub returns-clause-advanced : goal.returns-clause-advanced
returns-clause-advanced c = λ ops x h can.
    let u = c.args.inputs.now in
    let some : 0 < c.args.count = omega arith in
    let ready = can.ready some in
    work-advanced ops u c.advance-2.new.self c.args.keeper.now c.run_ready.new.keeper x c.args.count c.in_ok-added.added.items c.advance-2.ensures.fixed.0
    (c.advance-2.ensures.after x h.ports) c.in_ok-added.ensures.held h ready (c.in_ok-added.ensures.ran ops x h ready)
