use Rattle.std.proofs.Common.{◌≡◌, ◌∙◌, Some, None}
use Rattle.dpc_model.specs.Actors.{role_of}
use Rattle.world_model.specs.Worlds.{node_at}
use Rattle.world_core.specs.Runs.{world_of}
use Rattle.live_run.proofs.Reaching.{node_told}
use Rattle.live_run.proofs.goals.node_of.Goals as goal

pub returns-in_err-node : goal.returns-in_err-node
returns-in_err-node c =
    c.from_residual.ensures ∙ node_told c.args.world.now.plan (role_of c.args.world.now.plan c.args.actor) None (node_at (world_of c.args.world.now) c.args.actor) c.in_err-node.ensures.stands

pub returns : goal.returns
returns c =
    let first : c.recovering.result ≡ c.in_ok-node.node.now.recovering = c.recovering.ensures in
    let second : c.cursor.result ≡ c.in_ok-node.node.now.path.union.union.cursor = c.cursor.ensures in
    rw (first, second)
    (node_told c.args.world.now.plan (role_of c.args.world.now.plan c.args.actor) (Some c.in_ok-node.node.now) (node_at (world_of c.args.world.now) c.args.actor) c.in_ok-node.ensures.stands)
