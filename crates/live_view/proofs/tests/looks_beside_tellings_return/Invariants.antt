use Rattle.live_view.proofs.tests.looks_beside_tellings_return.Given as goal

abbrev pub ghosts-looks_beside : goal.ghosts-looks_beside
ghosts-looks_beside g a = record { plan = a.plan.now }
