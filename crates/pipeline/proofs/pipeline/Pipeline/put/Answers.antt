use Rattle.std.proofs.Common.{Some, None, ◌*◌, ap, refl, sym, subst, ◌∙◌}
use Rattle.pipeline.specs.Flowing.{PipelineValue, IsMilled}
use Rattle.pipeline.specs.Committing.{CanPut}
use Rattle.pipeline.specs.contracts.pipeline.Pipeline.{the_view}
use Rattle.pipeline.proofs.Wholes.{cursor-time, milled}
use Rattle.pipeline.proofs.Committed.{put-advanced}
use Rattle.pipeline.proofs.pipeline.Pipeline.put.Goals as goal

pub returns-clause-milled : goal.returns-clause-milled
returns-clause-milled c = λ ops x o h.
    let p = c.self.inside in
    let u = c.advance.new.self in
    let k = c.replace.new.self in
    let count = c.args.count in
    let after = c.args.after in
    let outputs = c.args.outputs in
    let told = c.in_ok-sends.sends.items in
    let can = subst (λ (v : PipelineValue). CanPut ops v x o count after outputs) (sym c.self.view_is) h in
    let wide = c.advance.ensures.fixed.0 in
    let advanced = put-advanced ops (the_view p) u k x o count after outputs can wide (c.advance.ensures.after x can.can.stands.ports) c.replace.ensures in
    let time = cursor-time ops u k p.inputs.width x count c.cursor.result c.width.result outputs advanced wide c.cursor.ensures c.width.ensures in
    subst (λ (v : PipelineValue). IsMilled ops v (record { union = u; keeper = k; output = c.give.new.output; passing = p.passing }) x o count c.args.done told) c.self.view_is
    (milled ops (the_view p) u k c.give.new.output x o count (record { stable = outputs; bound = Some (c.cursor.result * c.width.result); tentative = c.from_vec.result; passed = None; done = c.args.done }) told
    can.can wide advanced (ap Some time) (c.from_vec.ensures ∙ c.new.ensures.items) refl c.in_ok-sends.ensures.sends c.in_ok-sends.ensures.after)
