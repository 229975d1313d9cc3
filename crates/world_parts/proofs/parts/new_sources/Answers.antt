use Rattle.std.proofs.Common.{◌∙◌}
use Rattle.world_parts.proofs.NewParts.{sources_pushed}
use Rattle.world_parts.proofs.parts.new_sources.Goals as goal

pub loop-s-preserved : goal.loop-s-preserved
loop-s-preserved c = c.in_ok-push.ensures.items ∙ sources_pushed c.args.plan.now c.loop-s.s c.loop-s.sources.items c.in_ok-new.field-0 c.loop-s.invariant c.in_ok-new.ensures
