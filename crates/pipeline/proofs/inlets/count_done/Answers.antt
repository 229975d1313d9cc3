use Rattle.std.proofs.Common.{◌∙◌, ◌-◌, ap, ℕ}
use Rattle.pipeline.proofs.Plainly.{done-counts}
use Rattle.pipeline.proofs.inlets.count_done.Goals as goal

pub returns : goal.returns
returns c = λ x o h.
    let kept = c.kept-kept.result.now in
    let result = c.saturating_sub.ensures ∙ ap (λ (n : ℕ). n - (c.len.result - c.count_below.result)) c.count.ensures in
    done-counts c.args.time c.count_below.result c.len.result c.saturating_sub.result kept c.args.inlet.now x o h c.kept-kept.ensures c.count_below.ensures.count c.count_below.ensures.within
    c.len.ensures result
