use Rattle.node_threads.proofs.live.live.Given as goal

abbrev pub ghosts-live_named-N-Ledger : goal.ghosts-live_named-N-Ledger
ghosts-live_named-N-Ledger g a = record { name = a.blank.name; parts = a.blank.parts }

abbrev pub ghosts-live_named-N-RunName : goal.ghosts-live_named-N-RunName
ghosts-live_named-N-RunName g a = record { script = a.script }
