use Rattle.node_threads.proofs.worker.act.Given as goal

abbrev pub ghosts-act_counted : goal.ghosts-act_counted
ghosts-act_counted g a = record { name = a.blank.name; parts = a.blank.parts }
