use Rattle.law_upgrade.proofs.Runs.{report-same, short-same, json-same, ideal-same}
use Rattle.law_upgrade.proofs.upgraded_reports_are_the_same.Goals as goal

pub returns : goal.returns
returns c = record { report = report-same; short = short-same; json = json-same; ideal = ideal-same }
