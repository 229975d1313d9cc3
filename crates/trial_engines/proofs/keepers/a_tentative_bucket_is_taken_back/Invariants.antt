use Rattle.trial_engines.proofs.keepers.a_tentative_bucket_is_taken_back.Given as goal

abbrev pub ghosts-tried_and_taken_back : goal.ghosts-tried_and_taken_back
ghosts-tried_and_taken_back g a = record { name = a.blank.name; parts = a.blank.parts }
