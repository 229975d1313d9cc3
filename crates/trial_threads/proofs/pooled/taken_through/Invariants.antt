use Rattle.trial_threads.proofs.pooled.taken_through.Given as goal

abbrev pub ghosts-taken_in-N-Ledger : goal.ghosts-taken_in-N-Ledger
ghosts-taken_in-N-Ledger g a = record { name = a.blank.name; parts = a.blank.parts }

abbrev pub ghosts-taken_in-N-RunName : goal.ghosts-taken_in-N-RunName
ghosts-taken_in-N-RunName g a = record { script = a.script }
