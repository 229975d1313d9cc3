use Rattle.trial_threads.proofs.stale.crashed_in.Given as goal

abbrev pub ghosts-mill_apart : goal.ghosts-mill_apart
ghosts-mill_apart g a = record { name = a.blank.name; parts = a.blank.parts }
