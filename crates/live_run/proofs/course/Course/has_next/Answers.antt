use Rattle.std.proofs.Common.{◌∙◌, ◌-◌, ◌&&◌, ◌||◌, not, nat_lt, Bool, ℕ, sym, ap, length}
use Rattle.world_model.specs.Worlds.{World, all_settled}
use Rattle.world_model.specs.Schedules.{quiet_limit}
use Rattle.live_run.proofs.course.Course.has_next.Goals as goal

pub returns : goal.returns
returns c = λ script p of same s.
    c.is_left.ensures script of
    ∙ ap (λ (b : Bool). nat_lt c.args.self.now.moment.phase (length script.phases) || (script.settle && not b && nat_lt (c.args.self.now.moment.phase - length script.phases) (quiet_limit script.plan)))
    (c.settled.ensures ∙ ap (λ (w : World). all_settled w) (sym same))
    ∙ ap (λ (n : ℕ). nat_lt n (length script.phases) || (script.settle && not (all_settled p.world) && nat_lt (n - length script.phases) (quiet_limit script.plan))) (sym s.moment.phase)
