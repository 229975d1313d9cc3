use Rattle.std.proofs.Common.{refl, sym, subst}
use Rattle.pipeline.specs.Flowing.{PipelineValue, StandsForData, IsSetAs}
use Rattle.pipeline.specs.Messages.{IsTakenAt}
use Rattle.pipeline.specs.contracts.pipeline.Pipeline.{the_view}
use Rattle.pipeline.proofs.Arriving.{taken}
use Rattle.pipeline.proofs.pipeline.Pipeline.accept.Goals as goal

pub returns-clause-fixed : goal.returns-clause-fixed
returns-clause-fixed c =
    let p = c.self.inside in
    let set = c.in_ok-verdict.ensures.ok.fixed in
    subst (λ (v : PipelineValue). IsSetAs v (record { union = c.accept.new.self; keeper = p.keeper; output = p.output; passing = p.passing })) c.self.view_is
    (record { inputs = record { width = set.0; buckets = set.1; delay = set.2 }; marks = refl })

pub returns-clause-taken : goal.returns-clause-taken
returns-clause-taken c = λ ops x o h.
    let p = c.self.inside in
    let a = c.args in
    let told = c.in_ok-verdict.verdict in
    let stood = subst (λ (v : PipelineValue). StandsForData ops v x o) (sym c.self.view_is) h in
    subst (λ (v : PipelineValue). IsTakenAt ops a.port a.sess a.index a.items.now a.now v (record { union = c.accept.new.self; keeper = p.keeper; output = p.output; passing = p.passing }) x o told) c.self.view_is
    (taken ops (the_view p) c.accept.new.self x o a.port a.sess a.index a.items.now a.now told stood c.in_ok-verdict.ensures.ok)
