use Rattle.trial_engines.proofs.orders.an_order_is_done.Given as goal

abbrev pub ghosts-two_buckets : goal.ghosts-two_buckets
ghosts-two_buckets g a = record { name = a.blank.name; parts = a.blank.parts }
