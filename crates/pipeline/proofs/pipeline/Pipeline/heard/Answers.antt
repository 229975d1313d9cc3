use Rattle.std.proofs.Common.{refl, sym, subst}
use Rattle.dpc_model.specs.Inlets.{InletState, after_tally}
use Rattle.pipeline.specs.Flowing.{PipelineValue, StandsForData, IsSetAs}
use Rattle.pipeline.specs.contracts.pipeline.Pipeline.{the_view}
use Rattle.pipeline.proofs.Arriving.{same-session, tally-arrives}
use Rattle.pipeline.proofs.pipeline.Pipeline.heard.Goals as goal

pub returns-clause-fixed : goal.returns-clause-fixed
returns-clause-fixed c =
    let p = c.self.inside in
    subst (λ (v : PipelineValue). IsSetAs v (record { union = c.heard.new.self; keeper = p.keeper; output = p.output; passing = p.passing })) c.self.view_is
    (record { inputs = same-session c.args.port (λ (i : InletState). after_tally i c.args.tally) p.inputs c.heard.new.self c.heard.ensures.after; marks = refl })

pub returns-clause-stands : goal.returns-clause-stands
returns-clause-stands c = λ ops x o h.
    let p = c.self.inside in
    let stood = subst (λ (v : PipelineValue). StandsForData ops v x o) (sym c.self.view_is) h in
    tally-arrives ops (the_view p) c.heard.new.self x o c.args.port c.args.tally stood c.heard.ensures.after
