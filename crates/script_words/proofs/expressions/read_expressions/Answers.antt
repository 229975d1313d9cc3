use Rattle.std.proofs.Common.{reverse}
use Rattle.script_words.specs.Cursors.{words_left}
use Rattle.script_words.proofs.ReadExpressions.{none_made, one_made}
use Rattle.script_words.proofs.expressions.read_expressions.Goals as goal

pub loop-word-init : goal.loop-word-init
loop-word-init c = rw c.new-stack.ensures.items (none_made (words_left c.args.words) c.requires)

pub loop-word-preserved : goal.loop-word-preserved
loop-word-preserved c =
    one_made (words_left c.args.words) (words_left c.loop-word.words) (words_left c.next_back.new.self) c.in-Some.word.now c.symbol_of.result (reverse c.loop-word.stack.items) (reverse c.apply.new.stack.items)
    c.in-Some.ensures c.symbol_of.ensures c.in_ok-apply.ensures c.loop-word.invariant
