use Rattle.std.proofs.Common.{sym, subst}
use Rattle.source_core.specs.Emitting.{SourceValue, IsSourceOf}
use Rattle.source_core.proofs.Staying.{opens}
use Rattle.trial_nodes.proofs.sources.opened.Goals as goal

pub returns : goal.returns
returns c = subst (λ (v : SourceValue). IsSourceOf c.args.plan.now v) (sym c.in_ok-source.ensures) (opens c.args.plan.now 0 c.requires.number c.requires.in_order)
