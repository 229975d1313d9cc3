use Rattle.std.proofs.Common.{◌∙◌, ap, length, List, ℕ}
use Rattle.world_core.specs.Runs.{world_of}
use Rattle.live_run.proofs.Reaching.{all_reached, are_all_met}
use Rattle.live_run.proofs.goals.Goals.are_met.Goals as goal

pub returns : goal.returns
returns c = λ p same s.
    c.are_reached.ensures ∙ ap (λ (goals : List ℕ). all_reached (world_of c.args.world.now) goals (length goals)) c.self.view_is
    ∙ are_all_met (world_of c.args.world.now) c.args.self.now p same s
