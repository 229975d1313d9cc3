use Rattle.std.proofs.Common.{◌+◌, ◌*◌, arith, ap, sym, ◌∙◌, ◌≡◌}
use Rattle.load_gen.specs.Generated.{state_after, entries_of}
use Rattle.load_gen.proofs.Drawing.{entries-is, entries-more, last-entries}
use Rattle.load_gen.proofs.plan.log.Goals as goal

pub loop-i-preserved : goal.loop-i-preserved
loop-i-preserved c seed first e =
    let before = c.loop-i.invariant seed first e in
    let i = c.loop-i.i in
    let same : first + 2 * i + 2 ≡ first + 2 * (i + 1) = omega arith in (
      c.in_ok-entry_of.ensures.state seed (first + 2 * i) before.0 ∙ ap (state_after seed) same,
      rw (c.in_ok-push.ensures.items, before.1, c.in_ok-entry_of.ensures.entry seed first before.0) (sym (entries-more seed first i)),
    )

pub returns-clause-state : goal.returns-clause-state
returns-clause-state c seed first e =
    let most = c.loop-i.auto.i-end in
    let done = c.loop-i-test.false in
    last-entries seed first c.loop-i.generator.state c.loop-i.i (c.loop-i.invariant seed first e).0 (omega (arith, most, done))

pub returns-clause-log : goal.returns-clause-log
returns-clause-log c seed first e =
    let most = c.loop-i.auto.i-end in
    let done = c.loop-i-test.false in
    let all : c.loop-i.i ≡ 10000 = omega (arith, most, done) in
    c.from_vec.ensures ∙ (c.loop-i.invariant seed first e).1 ∙ ap (entries_of seed first) (all ∙ sym entries-is)
