use Rattle.law_journals.proofs.SnapshotsTrue.{snapshots-true}
use Rattle.law_journals.proofs.snapshots_of_what_does_not_recover_are_true.Goals as goal

pub returns : goal.returns
returns c = snapshots-true
