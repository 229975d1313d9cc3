use Rattle.std.proofs.Common.{◌∙◌, sym, subst}
use Rattle.source_core.specs.Emitting.{SourceValue, IsSourceOf}
use Rattle.source_core.proofs.Staying.{stays-one}
use Rattle.trial_nodes.proofs.sources.given.Goals.{then-released+in_ok-outs, else-released+in_ok-outs-2}
use Rattle.trial_nodes.proofs.sources.given.Goals as goal

pub returns : goal.returns
returns c =
    let stays = stays-one c.args.plan.now c.args.source.now c.requires in
    elim c.if-released.branch [
      | then-released+in_ok-outs w ↦ subst (λ (v : SourceValue). IsSourceOf c.args.plan.now v) (sym (w.source-is ∙ (w.in_ok-outs.ensures {u = tt}).after)) (stays.releases c.args.time)
      | else-released+in_ok-outs-2 w ↦ subst (λ (v : SourceValue). IsSourceOf c.args.plan.now v) (sym (w.source-is ∙ (w.in_ok-outs-2.ensures {u = tt}).after)) (stays.emits c.args.time)
    ]
