use Rattle.std.proofs.Common.{◌≡◌, ◌∙◌, [], List, ap, sym, subst}
use Rattle.std.specs.Prelude.{replicate}
use Rattle.dpc_model.specs.declared.tuples.Tuple.{Tuple}
use Rattle.soutput.specs.Giving.{restarted_output}
use Rattle.pipeline.specs.Flowing.{PipelineValue, StandsForData}
use Rattle.pipeline.specs.contracts.pipeline.Pipeline.{the_view}
use Rattle.pipeline.proofs.Begun.{loses}
use Rattle.pipeline.proofs.pipeline.Pipeline.lose.Goals as goal

pub returns-clause-lost : goal.returns-clause-lost
returns-clause-lost c = λ ops x o h.
    let p = c.self.inside in
    let stood = subst (λ (v : PipelineValue). StandsForData ops v x o) (sym c.self.view_is) h in
    let none : c.as_slice.result.now ≡ replicate c.ports.result 0 = c.as_slice.ensures.value ∙ c.in_ok-counts.ensures in
    let output : c.restart_at-2.new.self ≡ restarted_output 0 [] 0 p.output = c.in_ok-restart_at-2.ensures ∙ ap (λ (ts : List Tuple). restarted_output 0 ts 0 p.output) (c.from_vec-none.ensures ∙ c.new.ensures.items) in
    loses ops (the_view p) c.restart_at.new.self c.reset.new.self c.restart_at-2.new.self x o c.ports.result c.as_slice.result.now stood c.ports.ensures none c.in_ok-restart_at.ensures
    c.reset.ensures.operators c.reset.ensures.width c.reset.ensures.fresh c.reset.ensures.held c.reset.ensures.after output
