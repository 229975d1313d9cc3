use Rattle.fragment_mill.proofs.mill.new_stages.Goals as goal
use Rattle.fragment_mill.proofs.Starts.{op-sound}

pub new-requires : goal.new-requires
new-requires c = op-sound c.args.ops.now c.loop-op.op-index c.op-item.result c.requires c.loop-op-test.true c.op-item.is
