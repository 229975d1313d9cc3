use Rattle.live_watch.proofs.live.live_watch.Given as goal

abbrev pub ghosts-live_named-N-Ledger : goal.ghosts-live_named-N-Ledger
ghosts-live_named-N-Ledger g a = record { name = a.blank.name; parts = a.blank.parts }

abbrev pub ghosts-live_named-N-RunName : goal.ghosts-live_named-N-RunName
ghosts-live_named-N-RunName g a = record { script = a.script }

abbrev pub ghosts-live_named-N-ViewName : goal.ghosts-live_named-N-ViewName
ghosts-live_named-N-ViewName g a = record { plan = a.script.plan }
