use Rattle.live_view.proofs.tests.what_is_told_is_seen.Given as goal

abbrev pub ghosts-one_view : goal.ghosts-one_view
ghosts-one_view g a = record { plan = a.plan.now }
