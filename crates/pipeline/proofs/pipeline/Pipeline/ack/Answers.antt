use Rattle.std.proofs.Common.{length, sym, subst}
use Rattle.dpc_lists.specs.Lists.{changed}
use Rattle.dpc_model.specs.Sessions.{after_ack}
use Rattle.soutput.specs.Laws.{outputs_at}
use Rattle.pipeline.specs.Flowing.{PipelineValue, StandsForData, IsSetAs, stream_at}
use Rattle.pipeline.specs.contracts.pipeline.Pipeline.{the_view}
use Rattle.pipeline.proofs.Arriving.{same-set, acked}
use Rattle.pipeline.proofs.pipeline.Pipeline.ack.Goals as goal

pub returns-clause-fixed : goal.returns-clause-fixed
returns-clause-fixed c =
    let p = c.self.inside in
    subst (λ (v : PipelineValue). IsSetAs v (record { union = p.inputs; keeper = p.keeper; output = c.ack.new.self; passing = p.passing })) c.self.view_is
    (same-set (the_view p) c.ack.new.self)

pub returns-clause-stands : goal.returns-clause-stands
returns-clause-stands c = λ ops x o h.
    let p = c.self.inside in
    let a = c.args in
    let stood = subst (λ (v : PipelineValue). StandsForData ops v x o) (sym c.self.view_is) h in
    subst (λ (v : PipelineValue). StandsForData ops (record { union = p.inputs; keeper = p.keeper; output = c.ack.new.self; passing = p.passing }) x
    (outputs_at (length (stream_at ops v x).stable) (record o { acks = changed a.reader (after_ack a.inc a.count) o.acks }))) c.self.view_is
    (acked ops (the_view p) c.ack.new.self x o a.reader a.inc a.count stood c.ack.ensures)
