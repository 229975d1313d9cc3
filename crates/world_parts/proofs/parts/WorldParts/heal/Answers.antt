use Rattle.std.proofs.Common.{rules}
use Rattle.world_parts.specs.Counting.{IsWithinLimits}
use Rattle.world_parts.proofs.CutLinks.{is_healed}
use Rattle.world_parts.proofs.parts.WorldParts.heal.Goals as goal

pub returns : goal.returns
returns c =
    let within : IsWithinLimits c.args.self.now = search rules in
    is_healed c.args.roster.now c.args.self.now _ c.args.a c.args.b within (search rules)
