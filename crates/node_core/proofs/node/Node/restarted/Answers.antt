use Rattle.std.proofs.Common.{rules, ◌≡◌, ℕ, length, subst}
use Rattle.node_model.specs.Nodes.{Home}
use Rattle.pipeline.specs.Flowing.{StandsForData}
use Rattle.pipeline.specs.Recovery.{restarted_inputs, restarted_outputs}
use Rattle.node_core.proofs.Begun.{restarted-stands}
use Rattle.node_core.proofs.node.Node.restarted.Goals as goal

pub returns-clause-stands : goal.returns-clause-stands
returns-clause-stands c =
    let many : c.len.result ≡ length c.in_ok-readers.readers.items = search rules in
    let home : Home = record { plan = c.args.plan.now; frag = c.args.frag; replica = c.args.replica } in
    restarted-stands home c.args.inc c.in_ok-path.path c.in_ok-new.field-0 c.in_ok-readers.readers.items c.requires c.in_ok-path.ensures.set
    (λ f e. subst (λ (k : ℕ). StandsForData f.ops c.in_ok-path.path (restarted_inputs (length f.inputs) c.args.inc) (restarted_outputs k)) many (c.in_ok-path.ensures.stands f e)) (c.in_ok-new.ensures {u = tt}) (c.in_ok-readers.ensures {u = tt})
