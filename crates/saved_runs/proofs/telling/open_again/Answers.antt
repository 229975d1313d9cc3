use Rattle.std.proofs.Common.{sym, ap, subst, ◌∙◌}
use Rattle.law_safety.proofs.Worlding.{actor-at}
use Rattle.saved_point.specs.Points.{disk_in, point_at}
use Rattle.saved_runs.proofs.Told.{told-one}
use Rattle.saved_runs.proofs.telling.open_again.Goals as goal

pub open-requires-clause-known : goal.open-requires-clause-known
open-requires-clause-known g c = (actor-at c.args.plan.now c.args.node.actor c.args.node.frag c.requires.place.replica c.requires.can.checked c.requires.place.role).place.there

pub returns-in-Ok-clause-told : goal.returns-in-Ok-clause-told
returns-in-Ok-clause-told g c = λ replica last rests agrees.
    let plan = c.args.plan.now in
    let n = c.args.node in
    let honest = subst g.D.Disk.is_honest (sym c.into_disk.ensures) rests.honest in
    let read = c.in-Ok.ensures.reading honest in
    let kept = c.in-Ok.ensures.kept honest in
    let room = c.in-Ok.ensures.room in
    told-one plan c.args.room replica n (g.D.Disk.seen c.into_disk-in-Ok.result) c.in-Ok.snapshot last c.saved_of.result c.requires.place.slots
    (read ∙ ap (λ d. point_at plan n.frag c.args.room (g.D.Disk.seen d)) c.into_disk.ensures ∙ ap (λ k. point_at plan n.frag k (g.D.Disk.seen (disk_in n.point))) (sym c.requires.place.slots))
    (ap (λ d. point_at plan n.frag c.args.room (g.D.Disk.seen d)) c.into_disk-in-Ok.ensures ∙ ap (λ k. point_at plan n.frag k (g.D.Disk.seen (disk_in c.in-Ok.point))) (sym room) ∙ kept)
    c.saved_of.ensures.never c.saved_of.ensures.full c.saved_of.ensures.kept agrees
