use Rattle.trial_threads.proofs.watched.looks_beside_lock.Given as goal

abbrev pub ghosts-looks_of-N-Ledger : goal.ghosts-looks_of-N-Ledger
ghosts-looks_of-N-Ledger g a = record { name = a.blank.name; parts = a.blank.parts }

abbrev pub ghosts-looks_of-N-RunName : goal.ghosts-looks_of-N-RunName
ghosts-looks_of-N-RunName g a = record { script = a.script }

abbrev pub ghosts-looks_of-N-ViewName : goal.ghosts-looks_of-N-ViewName
ghosts-looks_of-N-ViewName g a = record { plan = a.script.plan }
