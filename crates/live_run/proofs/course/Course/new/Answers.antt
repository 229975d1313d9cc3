use Rattle.std.proofs.Common.{rules, ◌≡◌, ◌∙◌, length, refl, ap, List}
use Rattle.dpc_model.specs.declared.actors.Role.{Role}
use Rattle.world_model.specs.Schedules.{first_progress}
use Rattle.live_run.proofs.Noting.{first_stands}
use Rattle.live_run.proofs.course.Course.new.Goals as goal

pub returns : goal.returns
returns c = λ script same.
    let many : c.len-actors.result ≡ length c.in_ok-roles.roles.items = search rules in
    first_stands script c.args.plan.now c.in_ok-moment.moment c.new-inboxes.result c.in_ok-goals.goals c.len-actors.result same (many ∙ ap (λ (rs : List Role). length rs) c.in_ok-roles.ensures)
    (c.in_ok-moment.ensures.stands (first_progress script) refl refl refl) c.new-inboxes.ensures c.in_ok-goals.ensures.stands c.in_ok-moment.ensures.many c.in_ok-goals.ensures.many
