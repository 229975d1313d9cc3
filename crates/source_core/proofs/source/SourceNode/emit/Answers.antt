use Rattle.node_model.specs.Sources.{source_emits}
use Rattle.source_core.proofs.source.SourceNode.emit.Goals as goal

pub returns-clause-sends : goal.returns-clause-sends
unfolding source_emits
returns-clause-sends c = (c.in_ok-outs.ensures {u = tt}).sends

pub returns-clause-after : goal.returns-clause-after
unfolding source_emits
returns-clause-after c = (c.in_ok-outs.ensures {u = tt}).after
