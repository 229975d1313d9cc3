use Rattle.std.proofs.Common.{ℕ, ◌∙◌, subst}
use Rattle.sunion.specs.Unions.{after_advancing}
use Rattle.law_buckets.specs.Series.{AreReady}
use Rattle.pipeline.proofs.Opening.{can-close-next}
use Rattle.trial_nodes.proofs.pipelines.milled.Goals as goal

pub mill-requires : goal.mill-requires
mill-requires c = let e = c.in_ok-pipeline.ensures.1 in (e.0, e.1, e.2, e.3)

pub returns : goal.returns
returns c =
    let e = c.in_ok-pipeline.ensures.1 in
    let width = c.in_ok-pipeline.ensures.0 in
    let sends = c.in_ok-sends.ensures in (
      e.0,
      after_advancing 1 e.1,
      _,
      can-close-next e.0 c.mill.new.self e.1 _ (sends.milled e.0 e.1 e.2 e.3).stands (sends.fixed.inputs.width ∙ width) (subst (λ (w : ℕ). AreReady w e.1 1) width e.3.ready) e.4 e.5,
    )
