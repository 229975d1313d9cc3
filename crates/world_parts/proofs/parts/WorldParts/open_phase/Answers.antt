use Rattle.std.proofs.Common.{rules, refl}
use Rattle.dpc_model.specs.declared.messages.Event.TheVariants.{Phase}
use Rattle.world_parts.specs.Counting.{IsWithinLimits}
use Rattle.world_parts.proofs.Posting.{nothing-happened}
use Rattle.world_parts.proofs.parts.WorldParts.open_phase.Goals as goal

pub returns : goal.returns
returns c =
    let within : IsWithinLimits c.args.self.now = search rules in
    nothing-happened c.args.roster.now c.args.self.now (Phase c.args.number) within (λ x h. refl)
