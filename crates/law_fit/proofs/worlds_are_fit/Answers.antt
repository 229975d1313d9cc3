use Rattle.law_fit.proofs.FitWorlds.{world-nodes, world-packets}
use Rattle.law_fit.proofs.worlds_are_fit.Goals as goal

pub returns : goal.returns
returns c = record { nodes = world-nodes; packets = world-packets }
