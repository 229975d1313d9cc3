use Rattle.saved_runs.proofs.runs.saving_run.Goals as goal

pub returns-in_err-end-clause-stayed : goal.returns-in_err-end-clause-stayed
returns-in_err-end-clause-stayed g c = c.end.ensures.stayed _ (c.run_watched-run.ensures.stays _ c.requires.stayed)

pub returns-then-saves-2-clause-stayed : goal.returns-then-saves-2-clause-stayed
returns-then-saves-2-clause-stayed g c = c.end.ensures.stayed _ (c.run_watched-run.ensures.stays _ c.requires.stayed)

pub returns-then-saves-2-clause-fault : goal.returns-then-saves-2-clause-fault
returns-then-saves-2-clause-fault g c = λ told. (c.end.ensures.stayed _ (c.run_watched-run.ensures.stays _ c.requires.stayed)).rose c.requires.well c.if-saves-2.true

pub returns-clause-stayed : goal.returns-clause-stayed
returns-clause-stayed g c = c.end.ensures.stayed _ (c.run_watched-run.ensures.stays _ c.requires.stayed)
