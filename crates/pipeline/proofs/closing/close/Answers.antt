use Rattle.std.proofs.Common.{◌≡◌, List, sym, subst, arith}
use Rattle.dpc_model.specs.declared.tuples.Tuple.{Tuple}
use Rattle.pipeline.specs.Running.{HasClosed}
use Rattle.pipeline.proofs.Work.{work-open}
use Rattle.pipeline.proofs.closing.close.Goals as goal

pub returns-then-count-eq0-clause-closed : goal.returns-then-count-eq0-clause-closed
returns-then-count-eq0-clause-closed c = λ ops x h can.
    let u = c.args.inputs.now in
    let none : c.args.count ≡ 0 = omega arith in
    subst (λ (ts : List Tuple). HasClosed ops u c.args.keeper.now u.width x c.args.count ts) (sym c.new.ensures.items)
    (work-open ops u c.args.keeper.now x c.args.count none h)
