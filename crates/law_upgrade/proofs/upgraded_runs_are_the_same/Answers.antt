use Rattle.law_upgrade.proofs.Events.{run-same}
use Rattle.law_upgrade.proofs.Runs.{plan-upgraded, sources-same, nodes-same, clients-same, cuts-same, envelopes-same}
use Rattle.law_upgrade.proofs.upgraded_runs_are_the_same.Goals as goal

pub returns : goal.returns
returns c = record { whole = run-same; plan = plan-upgraded; sources = sources-same; nodes = nodes-same; clients = clients-same; cuts = cuts-same; envelopes = envelopes-same }
