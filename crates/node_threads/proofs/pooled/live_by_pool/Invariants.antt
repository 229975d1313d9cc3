use Rattle.node_threads.proofs.pooled.live_by_pool.Given as goal

abbrev pub ghosts-pooled_named-N-Ledger : goal.ghosts-pooled_named-N-Ledger
ghosts-pooled_named-N-Ledger g a = record { name = a.blank.name; parts = a.blank.parts }

abbrev pub ghosts-pooled_named-N-RunName : goal.ghosts-pooled_named-N-RunName
ghosts-pooled_named-N-RunName g a = record { script = a.script }
