use Rattle.std.proofs.Common.{◌≡◌, IsNone, Some, Err, refl, ap, ◌∙◌, arith, rules}
use Rattle.phase_saves.specs.declared.kept.SaveStop.TheVariants.{DiskFault}
use Rattle.phase_saves.proofs.Nodes.{same-still, still-rests}
use Rattle.phase_saves.proofs.node.SavingNode.put.Goals as goal

pub returns-then-number-clause-same : goal.returns-then-number-clause-same
returns-then-number-clause-same g c = same-still c.args.self.now

pub returns-in-Ok-clause-same : goal.returns-in-Ok-clause-same
returns-in-Ok-clause-same g c = record { actor = refl; frag = refl; room = c.save.ensures.room; extent = c.save.ensures.extent; faults = c.save.ensures.faults; honest = c.save.ensures.honest }

pub returns-in-Ok-clause-went : goal.returns-in-Ok-clause-went
returns-in-Ok-clause-went g c = λ plan rests savable.
    let low = c.args.self.now.point.slots.short in
    let fits = c.in-Ok.ensures.fits in
    let same = c.save.ensures.room in
    (omega (arith, fits, same), c.in-Ok.ensures.kept plan c.args.self.now.frag rests (savable (omega (arith, fits, low))))

pub returns-in-Some-clause-same : goal.returns-in-Some-clause-same
returns-in-Some-clause-same g c = record { actor = refl; frag = refl; room = c.save.ensures.room; extent = c.save.ensures.extent; faults = c.save.ensures.faults; honest = c.save.ensures.honest }

pub returns-in-Some-clause-fault : goal.returns-in-Some-clause-fault
returns-in-Some-clause-fault g c = λ told.
    let same : c.in-Some.stop ≡ DiskFault = cc in
    c.save.ensures.disk_fault (c.in-Err.is ∙ ap Err (c.stop_of.ensures.disk (c.in-Some.is ∙ ap Some same)))

pub returns-in_default-clause-same : goal.returns-in_default-clause-same
returns-in_default-clause-same g c = record { actor = refl; frag = refl; room = c.save.ensures.room; extent = c.save.ensures.extent; faults = c.save.ensures.faults; honest = c.save.ensures.honest }

pub returns-in_default-clause-rests : goal.returns-in_default-clause-rests
returns-in_default-clause-rests g c = λ rests.
    let none : IsNone c.stop_of.result = search rules in
    let why = c.stop_of.ensures.full none in
    let full = c.save.ensures.full why.0 why.1 (c.in-Err.is ∙ ap Err why.2) in
    still-rests c.args.self.now.point c.save.new.self c.save.ensures.room full.4 rests

pub returns-in_default-clause-went : goal.returns-in_default-clause-went
returns-in_default-clause-went g c = λ plan rests savable.
    let none : IsNone c.stop_of.result = search rules in
    let why = c.stop_of.ensures.full none in
    let full = c.save.ensures.full why.0 why.1 (c.in-Err.is ∙ ap Err why.2) in
    let same = c.save.ensures.room in
    omega (arith, full.0, full.1, full.2, same)
