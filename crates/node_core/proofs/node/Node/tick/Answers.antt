use Rattle.law_safety.proofs.Serving.{ticked-serves}
use Rattle.node_core.proofs.node.Node.tick.Goals as goal

pub returns-clause-serves : goal.returns-clause-serves
returns-clause-serves c = λ home most p stands place safe orderly calm. ticked-serves home most c.args.now p place (record { safe = safe; orderly = orderly }) calm
