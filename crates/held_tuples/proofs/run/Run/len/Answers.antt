use Rattle.held_tuples.proofs.Parts.{long-run}
use Rattle.held_tuples.proofs.run.Run.len.Goals as goal

pub returns : goal.returns
returns c = long-run c.self.inside.len c.self.inside.from c.self.inside.items c.args.self.now c.self.invariant.2 c.self.view_is
