use Rattle.pipeline.proofs.Opening.{first-can}
use Rattle.trial_nodes.proofs.pipelines.pipeline.Goals as goal

pub returns : goal.returns
returns c =
    let inputs = c.in_ok-inputs.ensures in
    let keeper = c.in_ok-keeper.ensures in
    first-can c.in_ok-inputs.inputs c.in_ok-keeper.keeper c.in_ok-output.output _ c.new.result inputs.width inputs.ready keeper.held keeper.after keeper.mill c.in_ok-output.ensures c.new.ensures
