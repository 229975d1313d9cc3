use Rattle.std.proofs.Common.{◌∙◌, sym, cond, ap, ℕ, List}
use Rattle.dpc_lists.specs.Lists.{nth}
use Rattle.world_model.specs.Schedules.{is_recovering}
use Rattle.world_core.specs.Runs.{world_of}
use Rattle.live_run.proofs.Reaching.{all_eased, zero_eased}
use Rattle.live_run.proofs.goals.Goals.ease.Goals as goal

pub returns-then-self-clause-stands : goal.returns-then-self-clause-stands
returns-then-self-clause-stands c = λ ts s.
    all_eased (world_of c.args.world.now) c.args.self.now c.ease_all.new.cursors.items ts
    (λ a. c.ease_all.ensures.each a ∙ ap (λ (old : List ℕ). cond (is_recovering (world_of c.args.world.now) a) 0 (nth 0 old a)) c.self.view_is) s

pub returns-else-self-clause-stands : goal.returns-else-self-clause-stands
returns-else-self-clause-stands c = λ ts s.
    let w = world_of c.args.world.now in
    let goals = c.args.self.now in
    all_eased w goals goals ts (zero_eased w goals (λ a. ap (λ (kept : List ℕ). nth 0 kept a) (sym c.self.view_is) ∙ c.self.invariant c.if-self.false a)) s
