use Rattle.std.proofs.Common.{◌≡◌, ◌<◌, false, [], length, ◌∙◌, arith}
use Rattle.std.proofs.lemmas.List.Elements.{All-set}
use Rattle.std.proofs.Math.Seq.{map-set_same}
use Rattle.fragment_mill.specs.Mills.{spent_of, OperatorAfter, spec_of}
use Rattle.fragment_mill.specs.Milling.{IsFit}
use Rattle.fragment_mill.proofs.Running.{below-more}
use Rattle.fragment_mill.proofs.mill.reset_all.Goals as goal

pub loop-stage-preserved : goal.loop-stage-preserved
loop-stage-preserved c =
    let i = c.loop-stage.stage-index in
    let s = c.stage-item.result in
    let ss = c.loop-stage.stages in
    let h = c.loop-stage.invariant in
    let low : i < length ss = omega arith in
    record {
      specs = map-set_same spec_of ss i _ s c.reset.ensures.spec ∙ h.specs;
      fits = λ w f.
          let fits = h.fits w f in
          All-set (IsFit w) ss i _ (c.reset.ensures.fits w (fits i s low)) fits;
      after = below-more (λ s. OperatorAfter s.operator [] 0) i _ ss low h.after c.reset.ensures.after;
      idle = below-more (λ s. spent_of s.operator ≡ false) i _ ss low h.idle c.reset.ensures.idle;
    }
