use Rattle.std.proofs.Common.{sym, subst}
use Rattle.dpc_model.specs.NodeStates.{is_stable}
use Rattle.pipeline.specs.Flowing.{PipelineValue, StandsForData, IsSetAs}
use Rattle.pipeline.specs.Messages.{HasAnswered}
use Rattle.pipeline.specs.contracts.pipeline.Pipeline.{the_view}
use Rattle.pipeline.proofs.Arriving.{same-set, answered}
use Rattle.pipeline.proofs.pipeline.Pipeline.open_session.Goals as goal

pub returns-clause-fixed : goal.returns-clause-fixed
returns-clause-fixed c =
    let p = c.self.inside in
    subst (λ (v : PipelineValue). IsSetAs v (record { union = p.inputs; keeper = p.keeper; output = c.open_session.new.self; passing = p.passing })) c.self.view_is
    (same-set (the_view p) c.open_session.new.self)

pub returns-clause-answered : goal.returns-clause-answered
returns-clause-answered c = λ ops x o h.
    let p = c.self.inside in
    let told = c.in_ok-told.told in
    let stood = subst (λ (v : PipelineValue). StandsForData ops v x o) (sym c.self.view_is) h in
    subst (λ (v : PipelineValue). HasAnswered ops c.args.reader c.args.asked (is_stable c.args.state) v (record { union = p.inputs; keeper = p.keeper; output = c.open_session.new.self; passing = p.passing }) x o told) c.self.view_is
    (answered ops (the_view p) c.open_session.new.self x o c.args.reader c.args.asked (is_stable c.args.state) told stood c.in_ok-told.ensures.ok)
