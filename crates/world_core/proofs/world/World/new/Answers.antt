use Rattle.std.proofs.Common.{◌≡◌, Bool, false, List, sym, subst}
use Rattle.dpc_model.specs.declared.messages.Event.{Event}
use Rattle.dpc_model.specs.declared.plans.Plan.{Plan}
use Rattle.world_model.specs.Worlds.{run}
use Rattle.law_fit.specs.Fits.{CanRun}
use Rattle.world_parts.specs.Parts.{StandsForWorld}
use Rattle.world_core.proofs.world.World.new.Goals as goal

pub invariant_of-result : goal.invariant_of-result
unfolding run
invariant_of-result c =
    subst (λ (p : Plan). CanRun p × (◌≡◌ {A = Bool} false false → StandsForWorld p c.in_ok-parts.parts (run p c.new-3.result.items))) (sym c.in_ok-roster.ensures)
    (c.requires, λ live. subst (λ (es : List Event). StandsForWorld c.args.plan c.in_ok-parts.parts (run c.args.plan es)) (sym c.new-3.ensures.items) (c.in_ok-parts.ensures {u = tt}))
