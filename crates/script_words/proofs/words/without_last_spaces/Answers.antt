use Rattle.std.proofs.Common.{◌≡◌, ◌+◌, ◌-◌, ◌<◌, length, take, ap, arith, ◌∙◌}
use Rattle.script_rules.specs.Lines.{words_of}
use Rattle.script_words.proofs.Cuts.{space_last, ends_there, ends_nowhere}
use Rattle.script_words.proofs.words.without_last_spaces.Goals as goal
use Rattle.script_words.proofs.words.without_last_spaces.Goals.{then-loop-end-test+else-line-end-eq32, else-loop-end-test}

pub loop-end-preserved : goal.loop-end-preserved
loop-end-preserved c =
    let line = c.args.line.now in
    let end = c.loop-end.end in
    let lt : end - 1 < length line = omega arith in
    let one : (end - 1) + 1 ≡ end = omega arith in
    (omega arith, space_last line (end - 1) lt c.if-line-end-eq32.true ∙ ap (λ n. words_of (take n line)) one ∙ c.loop-end.invariant.1)

pub returns-clause-ends : goal.returns-clause-ends
returns-clause-ends c =
    elim c.loop-end-test.branch [
      | then-loop-end-test+else-line-end-eq32 w ↦ λ some. ends_there c.args.line.now c.loop-end.end c.loop-end.invariant.0 w.loop-end-test.true w.if-line-end-eq32.false
      | else-loop-end-test w ↦ λ some. ends_nowhere c.args.line.now c.loop-end.end w.loop-end-test.false some
    ]
