use Rattle.std.proofs.Common.{◌∙◌, rules}
use Rattle.ops_window.proofs.Walk.{joins-on, joins-here, joins-end}
use Rattle.ops_window.proofs.joining.join_before.Goals as goal

pub loop-key-preserved : goal.loop-key-preserved
loop-key-preserved c =
    joins-on c.args.aggs.now c.args.begin c.args.end c.loop-key.window c.join_in.new.self (c.in-Some.key, c.in-Some.totals.now) c.loop-key.key-iterator c.next.new.self
    c.in-Some.ensures.steps c.if-end-key.false (search rules)
    ∙ c.loop-key.invariant

pub returns-then-end-key : goal.returns-then-end-key
returns-then-end-key c =
    joins-here c.args.aggs.now c.args.begin c.args.end c.loop-key.window (c.in-Some.key, c.in-Some.totals.now) c.loop-key.key-iterator c.next.new.self
    c.in-Some.ensures.steps c.if-end-key.true
    ∙ c.loop-key.invariant

pub returns : goal.returns
returns c = joins-end c.args.aggs.now c.args.begin c.args.end c.loop-key.window c.loop-key.key-iterator c.in-None.ensures.steps.0 ∙ c.loop-key.invariant
