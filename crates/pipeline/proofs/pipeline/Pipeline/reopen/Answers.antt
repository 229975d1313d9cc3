use Rattle.std.proofs.Common.{refl, sym, subst}
use Rattle.dpc_model.specs.Inlets.{with_next_session}
use Rattle.pipeline.specs.Flowing.{PipelineValue, StandsForData, IsSetAs}
use Rattle.pipeline.specs.contracts.pipeline.Pipeline.{the_view}
use Rattle.pipeline.proofs.Arriving.{same-session, reopened}
use Rattle.pipeline.proofs.pipeline.Pipeline.reopen.Goals as goal

pub returns-clause-fixed : goal.returns-clause-fixed
returns-clause-fixed c =
    let p = c.self.inside in
    subst (λ (v : PipelineValue). IsSetAs v (record { union = c.reopen.new.self; keeper = p.keeper; output = p.output; passing = p.passing })) c.self.view_is
    (record { inputs = same-session c.args.port with_next_session p.inputs c.reopen.new.self c.reopen.ensures.after; marks = refl })

pub returns-clause-reopened : goal.returns-clause-reopened
returns-clause-reopened c = λ ops x o h.
    let p = c.self.inside in
    let stood = subst (λ (v : PipelineValue). StandsForData ops v x o) (sym c.self.view_is) h in
    reopened ops (the_view p) c.reopen.new.self x o c.args.port c.reopen.result stood c.reopen.ensures.after c.reopen.ensures.asked
