use Rattle.trial_world.proofs.handing.work.Given as goal

abbrev pub ghosts-mill_apart : goal.ghosts-mill_apart
ghosts-mill_apart a = record { name = a.blank.name; parts = a.blank.parts }
