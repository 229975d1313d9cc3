use Rattle.law_fit.proofs.FitWorlds.{run-nodes, run-packets}
use Rattle.law_fit.proofs.every_run_is_fit.Goals as goal

pub returns : goal.returns
returns c = record { nodes = run-nodes; packets = run-packets }
