use Rattle.std.proofs.Common.{refl, ap, ◌∙◌}
use Rattle.std.specs.Prelude.{replicate}
use Rattle.picture_model.specs.Points.{first_point}
use Rattle.picture_watch.specs.Tallies.{first_tally}
use Rattle.picture_watch.proofs.Seeing.{begins}
use Rattle.picture_watch.proofs.watch.Picturing.new.Goals as goal

pub returns-clause-drawn : goal.returns-clause-drawn
returns-clause-drawn c =
    begins c.args.script.now.plan
    (record { columns = c.new.result; promises = c.new-3.result; number = 0; clock = 0; sources = c.in_ok-sources.sources; marks = c.new-2.result; cuts = c.new-4.result; tallies = c.in_ok-tallies.tallies; losses = c.in_ok-losses.losses })
    c.new.ensures.items c.new-3.ensures.items refl refl (c.in_ok-sources.ensures ∙ ap (λ n. replicate n first_point) c.len.ensures) c.new-2.ensures.items c.new-4.ensures.items
    (c.in_ok-tallies.ensures ∙ ap (λ n. replicate n first_tally) c.len-2.ensures)
