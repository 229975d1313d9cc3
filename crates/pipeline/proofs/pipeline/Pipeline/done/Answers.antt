use Rattle.std.proofs.Common.{◌<◌, ◌*◌, ◌∙◌, ap, length, sym, subst}
use Rattle.dpc_lists.specs.Lists.{nth}
use Rattle.dpc_model.specs.Streams.{count_below}
use Rattle.dpc_model.specs.Inlets.{no_inlet}
use Rattle.pipeline.specs.Flowing.{PipelineValue, StandsForData}
use Rattle.pipeline.specs.contracts.pipeline.Pipeline.{the_view}
use Rattle.pipeline.proofs.Plainly.{cursor-at, done-shown}
use Rattle.pipeline.proofs.pipeline.Pipeline.done.Goals as goal

pub returns : goal.returns
returns c = λ ops x o h ordered.
    let v = the_view c.self.inside in
    let stood = subst (λ (w : PipelineValue). StandsForData ops w x o) (sym c.self.view_is) h in
    let low = subst (λ (w : PipelineValue). c.args.port < length w.union.union.inlets) (sym c.self.view_is) c.requires.inside in
    let cursor = c.from.ensures ∙ c.cursor.ensures in
    let width = c.from-2.ensures ∙ c.width.ensures in
    let time = cursor-at ops v x o c.from.result c.from-2.result stood cursor width in
    done-shown ops v x o c.args.port (c.from.result * c.from-2.result) c.count_done.result c.inlet.result.now low stood ordered time c.inlet.ensures c.count_done.ensures
    ∙ ap (λ (w : PipelineValue). count_below (nth no_inlet x.inlets c.args.port).held.stable (x.cursor * w.union.width)) c.self.view_is
