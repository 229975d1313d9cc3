use Rattle.std.proofs.Common.{◌≡◌, ◌+◌, ◌-◌, ap, sym, ◌∙◌, ◌++◌, [], arith}
use Rattle.picture_text.specs.Strips.{shown, shown_at, alike_before}
use Rattle.picture_text.proofs.Loops.{flat_grows, nth_read}
use Rattle.picture_text.proofs.strips.folded.Goals as goal

pub loop-i-preserved : goal.loop-i-preserved
loop-i-preserved c =
    let all = c.args.all.now in
    let i = c.loop-i.i in
    let strips = c.loop-i.strips.items in
    let here = nth_read [] c.index-all-i.result all i c.loop-i-test.true c.index-all-i.is in
    let same : i + 1 - 1 ≡ i = omega arith in (
      flat_grows (shown_at all) i [] strips _ c.loop-i.invariant.0
          (c.in_ok-put_shown.ensures ∙ ap (λ n. strips ++ shown n c.index-all-i.result) c.alike_at-alike.ensures ∙ ap (λ s. strips ++ shown (alike_before all i) s) (sym here)),
      c.alike_at-alike.ensures ∙ ap (alike_before all) (sym same),
    )
