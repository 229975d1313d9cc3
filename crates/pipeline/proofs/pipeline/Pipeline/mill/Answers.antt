use Rattle.std.proofs.Common.{◌*◌, ◌^◌, ◌<◌, ◌∙◌, ℕ, List, Some, None, refl, ap, sym, subst, arith}
use Rattle.dpc_model.specs.declared.tuples.Tuple.{Tuple}
use Rattle.pipeline.specs.Flowing.{PipelineValue, CanMill, IsMilled, IsSetAs}
use Rattle.pipeline.specs.Running.{HasAdvanced}
use Rattle.pipeline.specs.contracts.pipeline.Pipeline.{the_view}
use Rattle.pipeline.proofs.Wholes.{data-work, cursor-time, mill-can, milled}
use Rattle.pipeline.proofs.pipeline.Pipeline.mill.Goals as goal

pub overflow_mul-bound : goal.overflow_mul-bound
overflow_mul-bound c =
    let r = c.requires in
    let p = c.self.inside in
    let can = subst (λ (v : PipelineValue). CanMill r.0 v r.1 r.2 c.args.count) (sym c.self.view_is) r.3 in
    let advanced = c.in_ok-stable.ensures.advanced r.0 r.1 (data-work r.0 (the_view p) r.1 r.2 can.stands) (mill-can r.0 (the_view p) r.1 r.2 c.args.count can) in
    let time = cursor-time r.0 c.advance.new.inputs c.advance.new.keeper p.inputs.width r.1 c.args.count c.cursor.result c.width.result c.in_ok-stable.stable.items advanced c.in_ok-stable.ensures.setting.width c.cursor.ensures c.width.ensures in
    let end = can.ready.end in
    let small : c.cursor.result * c.width.result < 2 ^ 64 = subst (λ (n : ℕ). n < 2 ^ 64) (sym time) end in
    omega (arith, small)

pub returns-clause-fixed : goal.returns-clause-fixed
returns-clause-fixed c =
    let p = c.self.inside in
    subst (λ (v : PipelineValue). IsSetAs v (record { union = c.advance.new.inputs; keeper = c.advance.new.keeper; output = c.give.new.output; passing = p.passing })) c.self.view_is
    (record { inputs = c.in_ok-stable.ensures.setting; marks = refl })

pub returns-clause-milled : goal.returns-clause-milled
returns-clause-milled c = λ ops x o h.
    let p = c.self.inside in
    let u = c.advance.new.inputs in
    let k = c.advance.new.keeper in
    let count = c.args.count in
    let told = c.in_ok-sends.sends.items in
    let can = subst (λ (v : PipelineValue). CanMill ops v x o count) (sym c.self.view_is) h in
    let advanced = c.in_ok-stable.ensures.advanced ops x (data-work ops (the_view p) x o can.stands) (mill-can ops (the_view p) x o count can) in
    let given = subst (λ (ts : List Tuple). HasAdvanced ops u k p.inputs.width x count ts) (sym c.from_vec.ensures) advanced in
    let time = cursor-time ops u k p.inputs.width x count c.cursor.result c.width.result c.in_ok-stable.stable.items advanced c.in_ok-stable.ensures.setting.width c.cursor.ensures c.width.ensures in
    subst (λ (v : PipelineValue). IsMilled ops v (record { union = u; keeper = k; output = c.give.new.output; passing = p.passing }) x o count c.args.done told) c.self.view_is
    (milled ops (the_view p) u k c.give.new.output x o count (record { stable = c.from_vec.result; bound = Some (c.cursor.result * c.width.result); tentative = c.from_vec-2.result; passed = None; done = c.args.done }) told
    can c.in_ok-stable.ensures.setting.width given (ap Some time) (c.from_vec-2.ensures ∙ c.new.ensures.items) refl c.in_ok-sends.ensures.sends c.in_ok-sends.ensures.after)
