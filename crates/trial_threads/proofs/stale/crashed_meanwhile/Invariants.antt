use Rattle.trial_threads.proofs.stale.crashed_meanwhile.Given as goal

abbrev pub ghosts-crashed_in-N-Ledger : goal.ghosts-crashed_in-N-Ledger
ghosts-crashed_in-N-Ledger a = record { name = a.blank.name; parts = a.blank.parts }

abbrev pub ghosts-crashed_in-N-RunName : goal.ghosts-crashed_in-N-RunName
ghosts-crashed_in-N-RunName a = record { script = a.script }
