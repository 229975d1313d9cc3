use Rattle.std.proofs.Common.{◌≡◌, ◌∙◌, ◌&&◌, ◌==◌, not, Bool, ℕ, cond, sym, subst, ap, length}
use Rattle.dpc_model.specs.Actors.{roles_of}
use Rattle.dpc_model.specs.declared.plans.Plan.{Plan}
use Rattle.dpc_lists.specs.Lists.{is_nil}
use Rattle.world_model.specs.Worlds.{World}
use Rattle.world_model.specs.Schedules.{Progress, noting, directives_done, targets_in, targets_left}
use Rattle.world_core.specs.Runs.{world_of}
use Rattle.law_schedules.proofs.Calm.{IsGrown}
use Rattle.live_run.specs.Goals.{StandsForTargets}
use Rattle.live_run.specs.Courses.{Stands}
use Rattle.live_run.proofs.Noting.{noting_world, noting_grown, next_stands}
use Rattle.live_run.proofs.course.Course.note.Goals as goal

pub returns : goal.returns
returns c = λ script p of same sent may s.
    let v : World = world_of c.args.world.now in
    let y : Progress = noting script p c.args.e in
    let had : c.is_directed-had.result ≡ is_nil p.todo = c.is_directed-had.ensures p s.moment in
    let mid : Stands c.happen.new.self y = c.in_ok-happen.ensures script p of same may s in
    let grown : IsGrown y.world v = noting_grown script p c.args.e v same in
    let done : c.is_done_since-done.result ≡ (directives_done p y && y.phase == p.phase) =
    c.is_done_since-done.ensures y mid ∙ ap (λ (b : Bool). not b && is_nil y.todo && y.phase == c.args.self.now.moment.phase) had
    ∙ ap (λ (n : ℕ). not (is_nil p.todo) && is_nil y.todo && y.phase == n) (sym s.moment.phase) in
    next_stands script p c.args.e v _ same mid.moment
    (c.in_ok-take_in.ensures y.world y.waiting mid.waiting grown (sent ∙ ap (λ (w : World). length w.envelopes) (sym (noting_world script p c.args.e))))
    (subst (λ (b : Bool). StandsForTargets c.turn.new.self (cond b (targets_in v) (targets_left v y.targets))) done
    (c.in_ok-turn.ensures.stands y.targets (ap (λ (q : Plan). length (roles_of q)) grown.plan ∙ sym mid.nodes) mid.targets))
    mid.actors (c.in_ok-turn.ensures.many ∙ mid.nodes)
