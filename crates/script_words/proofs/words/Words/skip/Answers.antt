use Rattle.std.proofs.Common.{ap, drop, ◌∙◌}
use Rattle.script_words.specs.Cursors.{words_left}
use Rattle.script_words.proofs.Taking.{if_none, drop-one-more, all_dropped}
use Rattle.script_words.proofs.words.Words.skip.Goals as goal

pub returns-then-is_none : goal.returns-then-is_none
returns-then-is_none c =
    all_dropped (words_left c.args.self.now) (words_left c.loop.self) (words_left c.next.new.self) c.loop.counter c.args.n c.loop-test.true c.loop.invariant
    (if_none c.next.result _ _ c.if-is_none.ensures c.next.ensures.word) c.next.ensures.rest

pub loop-preserved : goal.loop-preserved
loop-preserved c = c.next.ensures.rest ∙ ap (drop 1) c.loop.invariant ∙ drop-one-more (words_left c.args.self.now) c.loop.counter
