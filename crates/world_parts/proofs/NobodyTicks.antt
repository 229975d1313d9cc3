-- Who is nobody does nothing.
use Rattle.std.proofs.Common.{◌≡◌, ℕ, sym, subst}
use Rattle.dpc_model.specs.Actors.{role_of}
use Rattle.dpc_model.specs.declared.actors.Role.TheVariants.{Nobody}
use Rattle.dpc_model.specs.declared.messages.Event.TheVariants.{Tick}
use Rattle.dpc_model.specs.declared.plans.Plan.{Plan}
use Rattle.world_parts.specs.Parts.{WorldPartsValue}
use Rattle.world_parts.specs.Counting.{IsWithinLimits}
use Rattle.world_parts.specs.Events.{Happened}
use Rattle.world_parts.proofs.PartFrames.{void}
use Rattle.world_parts.proofs.ClientTicks.{ticks-to}

pub nobody_ticks : (plan : Plan) (v : WorldPartsValue) (a now : ℕ) → IsWithinLimits v → role_of plan a ≡ Nobody → Happened plan v v (Tick a now)
nobody_ticks plan v a now within role =
    void plan v (Tick a now) within (λ x h. ticks-to x a now Nobody (subst (λ (p : Plan). role_of p a ≡ Nobody) (sym h.plan_is) role))
