use Rattle.std.proofs.Common.{◌≡◌, ◌∙◌, cond, Bool, [], sym, ap, subst, length, refl}
use Rattle.std.specs.List.{filter}
use Rattle.dpc_lists.specs.Lists.{is_nil}
use Rattle.dpc_model.specs.Actors.{roles_of}
use Rattle.world_model.specs.Worlds.{World}
use Rattle.world_model.specs.Schedules.{has_event, targets_in}
use Rattle.world_core.specs.Runs.{world_of}
use Rattle.live_parts.specs.Moments.{StandsForMoment}
use Rattle.live_run.specs.Goals.{StandsForTargets}
use Rattle.live_run.proofs.Steps.{phase_opened}
use Rattle.live_run.proofs.course.Course.open_phase.Goals as goal

pub returns : goal.returns
returns c = λ p same s.
    let todo : c.in_ok-todo.todo.items ≡ filter has_event c.args.directives.now = c.in_ok-todo.ensures in
    let moment : StandsForMoment c.open.new.self (phase_opened c.args.phase c.args.directives.now p) =
    c.open.ensures.stands (phase_opened c.args.phase c.args.directives.now p) refl (sym todo) refl in
    let free : c.is_directed-free.result ≡ is_nil (filter has_event c.args.directives.now) = c.is_directed-free.ensures (phase_opened c.args.phase c.args.directives.now p) moment in
    let many : length (roles_of (world_of c.args.world.now).plan) ≡ length c.args.self.now.goals = ap (λ (w : World). length (roles_of w.plan)) (sym same) ∙ sym s.nodes in
    record {
      moment = moment;
      waiting = c.in_ok-open_phase.ensures p.world p.waiting s.waiting;
      targets = subst (λ (w : World). StandsForTargets c.begin.new.self (cond (is_nil (filter has_event c.args.directives.now)) (targets_in w) [])) (sym same)
          (subst (λ (b : Bool). StandsForTargets c.begin.new.self (cond b (targets_in (world_of c.args.world.now)) [])) free (c.in_ok-begin.ensures.stands many));
      actors = c.open.ensures.many ∙ s.actors;
      nodes = c.in_ok-begin.ensures.many ∙ s.nodes;
    }
