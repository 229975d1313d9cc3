use Rattle.std.proofs.Common.{false}
use Rattle.phase_saves.proofs.Seeing.{begins, stays-so}
use Rattle.phase_saves.proofs.watch.PhaseSaves.new.Goals as goal

pub returns-clause-stayed : goal.returns-clause-stayed
returns-clause-stayed g c = stays-so _

pub returns-clause-seen : goal.returns-clause-seen
returns-clause-seen g c = λ plan. begins plan (record { nodes = c.args.nodes; failed = false })
