use Rattle.std.proofs.Common.{rules, ◌≡◌, ℕ, length, ◌==◌, subst}
use Rattle.node_model.specs.Nodes.{Home}
use Rattle.sunion.specs.Laws.{new_inputs}
use Rattle.pipeline.specs.Flowing.{StandsForData}
use Rattle.pipeline.specs.Recovery.{opened_outputs}
use Rattle.node_core.proofs.Begun.{opened-stands}
use Rattle.node_core.proofs.node.Node.new.Goals as goal

pub returns-clause-stands : goal.returns-clause-stands
returns-clause-stands c =
    let many : c.len.result ≡ length c.in_ok-readers.readers.items = search rules in
    let home : Home = record { plan = c.args.plan.now; frag = c.args.frag; replica = c.args.replica } in
    opened-stands home c.in_ok-path.path c.in_ok-new.field-0 c.in_ok-readers.readers.items c.requires c.in_ok-path.ensures.set
    (λ f e. subst (λ (k : ℕ). StandsForData f.ops c.in_ok-path.path (new_inputs (length f.inputs) 1) (opened_outputs k (c.args.replica == 0))) many (c.in_ok-path.ensures.stands f e)) (c.in_ok-new.ensures {u = tt}) (c.in_ok-readers.ensures {u = tt})
