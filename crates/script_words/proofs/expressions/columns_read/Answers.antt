use Rattle.script_rules.specs.Symbols.{formulas}
use Rattle.script_words.specs.Cursors.{words_left}
use Rattle.script_words.specs.Readable.{columns_in}
use Rattle.script_words.proofs.Spanning.{columns_more}
use Rattle.script_words.proofs.expressions.columns_read.Goals as goal

pub loop-word-preserved : goal.loop-word-preserved
loop-word-preserved c =
    rw (c.max-columns.ensures, c.own_columns.ensures)
    (columns_more (words_left c.loop-word.words) (words_left c.next.new.self) c.in-Some.word.now c.symbol_of.result c.loop-word.columns (columns_in (formulas (words_left c.args.words))) c.in-Some.ensures.word c.symbol_of.ensures c.loop-word.invariant)
