use Rattle.std.proofs.Common.{◌∙◌}
use Rattle.pipeline.proofs.Opening.{fed}
use Rattle.trial_nodes.proofs.pipelines.inputs.Goals as goal

pub returns-clause-ready : goal.returns-clause-ready
returns-clause-ready c =
    (fed c.in_ok-inputs.inputs c.accept.new.self c.in_ok-accept.field-0 c.in_ok-batch.batch c.in_ok-first.first c.in_ok-second.second c.in_ok-inputs.ensures
    (c.in_ok-batch.ensures ∙ c.in_ok-items.ensures.items) c.in_ok-second.ensures c.in_ok-accept.ensures.ok).1
