use Rattle.std.proofs.Common.{◌∙◌, ◌==◌, not, sym, cond, nat_lt, ap, length, ℕ, List}
use Rattle.dpc_lists.specs.Lists.{list_any}
use Rattle.world_core.specs.Runs.{world_of}
use Rattle.live_run.specs.Goals.{goal_in}
use Rattle.live_run.proofs.Reaching.{all_set, none_kept}
use Rattle.live_run.proofs.goals.Goals.set.Goals as goal

pub returns-clause-stands : goal.returns-clause-stands
returns-clause-stands c = λ many.
    all_set (world_of c.args.world.now) c.set_all.new.cursors.items (length c.args.self.now) many
    (λ a. c.in_ok-set_all.ensures.each a ∙ ap (λ (old : List ℕ). cond (nat_lt a (length old)) (goal_in (world_of c.args.world.now) a) 0) c.self.view_is)

pub invariant_of-self-2 : goal.invariant_of-self-2
invariant_of-self-2 c = λ none. none_kept c.set_all.new.cursors.items (ap (list_any (λ (g : ℕ). not (g == 0))) (sym c.as_slice.ensures.value) ∙ sym c.has_any-self-inside.ensures ∙ none)
