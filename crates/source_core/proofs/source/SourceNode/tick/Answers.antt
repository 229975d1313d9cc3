use Rattle.std.proofs.Common.{◌∙◌, ap, List, ℕ}
use Rattle.dpc_model.specs.declared.sessions.Sub.{Sub}
use Rattle.node_model.specs.Sources.{source_tick_step}
use Rattle.source_core.specs.Emitting.{SourceValue}
use Rattle.source_core.specs.contracts.source.SourceNode.{the_view}
use Rattle.source_core.proofs.Sends.{beats_to}
use Rattle.source_core.proofs.source.SourceNode.tick.Goals as goal

pub returns-clause-sends : goal.returns-clause-sends
unfolding source_tick_step
returns-clause-sends c = λ plan h.
    let v = the_view c.self.inside in
    (c.in_ok-outs.ensures {u = tt})
    ∙ ap (λ (rs : List ℕ). beats_to rs c.as_slice-2.result.now) c.as_slice.ensures.value
    ∙ ap (λ (ss : List Sub). beats_to c.self.inside.readers.items ss) c.as_slice-2.ensures.value
    ∙ ap (λ (w : SourceValue). beats_to w.readers w.state.subs) c.self.view_is
    ∙ ap (λ (rs : List ℕ). beats_to rs c.args.self.now.state.subs) h.readers

pub returns-clause-after : goal.returns-clause-after
unfolding source_tick_step
returns-clause-after c = λ plan h. ap (λ (w : SourceValue). record w { state = record w.state { clock = c.args.now } }) c.self.view_is
