use Rattle.node_threads.proofs.pooling.drain.Given as goal

abbrev pub ghosts-drain_counted : goal.ghosts-drain_counted
ghosts-drain_counted g a = record { name = a.blank.name; parts = a.blank.parts }
