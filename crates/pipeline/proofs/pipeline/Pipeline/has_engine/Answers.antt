use Rattle.std.proofs.Common.{◌↔◌, IsTrue, sym, subst}
use Rattle.fragment_mill.specs.Mills.{MillState}
use Rattle.mill_work.specs.Milling.{OrderValue}
use Rattle.pipeline.specs.Flowing.{PipelineValue, IsEngineOf, StandsForData}
use Rattle.pipeline.specs.contracts.pipeline.Pipeline.{the_view}
use Rattle.pipeline.proofs.Committed.{same-engine}
use Rattle.pipeline.proofs.pipeline.Pipeline.has_engine.Goals as goal

pub returns : goal.returns
returns c = λ ops x o h.
    let told = c.in_ok-told.told in
    let stood = subst (λ (v : PipelineValue). StandsForData ops v x o) (sym c.self.view_is) h in
    subst (λ (q : OrderValue MillState). IsTrue told ↔ IsEngineOf ops c.args.self.now.union.width x q.before) c.order.view_is
    (subst (λ (v : PipelineValue). IsTrue told ↔ IsEngineOf ops v.union.width x c.order.inside.before) c.self.view_is
    (same-engine ops (the_view c.self.inside) x o c.order.inside.before told stood c.in_ok-told.ensures.same c.in_ok-told.ensures.determined))
