use Rattle.back_channel.proofs.Comparing.{agree-all, agree-short, agree-differ}
use Rattle.back_channel.proofs.telling.count_same.Goals as goal

pub returns-else-same-clause-begins : goal.returns-else-same-clause-begins
returns-else-same-clause-begins c = λ ts front agrees.
    agree-differ c.loop-same.same c.args.count ts c.args.old.now c.args.new.now c.index-old-same.result c.index-new-same.result front c.loop-same-test.true c.if-same-old.true c.if-same-new.true
    c.index-old-same.is c.index-new-same.is (λ same. absurd (let yes = (c.if-same.ensures {u = tt}).1 same in cc))

pub returns-else-same-new-clause-begins : goal.returns-else-same-new-clause-begins
returns-else-same-new-clause-begins c = λ ts front agrees.
    agree-short c.loop-same.same c.args.count ts c.args.old.now c.args.new.now front (c.loop-same.invariant ts front agrees) c.loop-same-test.true c.if-same-new.false

pub returns-after-loop-same-clause-begins : goal.returns-after-loop-same-clause-begins
returns-after-loop-same-clause-begins c = λ ts front agrees.
    agree-all c.loop-same.same c.args.count ts c.args.old.now c.args.new.now front (c.loop-same.invariant ts front agrees) c.loop-same-test.false
