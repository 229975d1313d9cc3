use Rattle.law_upgrade.proofs.Events.{run-same}
use Rattle.law_upgrade.proofs.Journals.{may-same, so-far-same, live-same, progress-same}
use Rattle.law_upgrade.proofs.Telling.{lock-same}
use Rattle.law_upgrade.proofs.Replayed.{replays-same}
use Rattle.law_upgrade.proofs.upgraded_scripts_have_the_same_journals.Goals as goal

pub returns : goal.returns
returns c = record { next = may-same; so_far = so-far-same; live = live-same; lock = lock-same; replay = replays-same; world = λ s. run-same s.plan; stands = progress-same }
