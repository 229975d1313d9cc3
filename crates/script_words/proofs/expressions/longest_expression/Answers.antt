use Rattle.std.proofs.Common.{arith}
use Rattle.script_rules.specs.Symbols.{operands}
use Rattle.script_words.specs.Cursors.{words_left}
use Rattle.script_words.specs.Symbols.{meant}
use Rattle.script_words.proofs.Splitting.{length-words_of}
use Rattle.script_words.proofs.Spanning.{is_read, spans_more, few_operands, fewer_formulas}
use Rattle.script_words.proofs.expressions.longest_expression.Goals as goal

pub with_word-span-requires-clause-counts : goal.with_word-span-requires-clause-counts
with_word-span-requires-clause-counts c = omega (arith, length-words_of c.args.words.rest.now, c.loop-word.invariant.counts)

pub with_word-span-requires-clause-wants : goal.with_word-span-requires-clause-wants
with_word-span-requires-clause-wants c =
    omega (arith, length-words_of c.args.words.rest.now, c.loop-word.invariant.counts, c.loop-word.invariant.wants, fewer_formulas (words_left c.loop-word.words), few_operands c.symbol_of.result, c.operands.ensures)

pub loop-word-preserved : goal.loop-word-preserved
loop-word-preserved c =
    let r = is_read (words_left c.loop-word.words) (words_left c.next.new.self) c.in-Some.word.now c.symbol_of.result c.in-Some.ensures.word c.symbol_of.ensures c.loop-word.invariant.readable in
    rw (c.with_word-span.ensures, c.operands.ensures) (spans_more (words_left c.args.words) (words_left c.loop-word.words) (words_left c.next.new.self) c.loop-word.span (operands (meant c.symbol_of.result)) r c.loop-word.invariant)
