use Rattle.std.proofs.Common.{rules, sym, ◌∙◌}
use Rattle.world_parts.specs.Counting.{IsWithinLimits}
use Rattle.world_parts.proofs.NobodyTicks.{nobody_ticks}
use Rattle.world_parts.proofs.parts.WorldParts.tick.Goals as goal

pub returns-in-Nobody-clause-ok : goal.returns-in-Nobody-clause-ok
returns-in-Nobody-clause-ok c =
    let within : IsWithinLimits c.args.self.now = search rules in
    nobody_ticks c.args.roster.now c.args.self.now c.args.actor c.args.now within (sym c.role_of.ensures ∙ c.in-Nobody.is)
