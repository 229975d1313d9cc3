use Rattle.std.proofs.Common.{ap, ◌∙◌}
use Rattle.std.specs.Option.{unwrap_or}
use Rattle.script_rules.specs.Spelling.{column_of}
use Rattle.script_rules.specs.Symbols.{aggs_of}
use Rattle.script_words.specs.Cursors.{words_left}
use Rattle.script_words.proofs.ReadOperands.{agg_more}
use Rattle.script_words.proofs.operands.read_aggs.Goals as goal

pub loop-word-preserved-in-Continue-1 : goal.loop-word-preserved-in-Continue-1
loop-word-preserved-in-Continue-1 c =
    let column_is = c.unwrap_or-column.ensures ∙ ap (λ o. unwrap_or o 0) (c.column_of.ensures.column ∙ ap column_of c.word.ensures) in
    rw c.in_ok-push.ensures.items
    (agg_more c.loop-word.aggs.items c.in-Some.word.now (words_left c.loop-word.words) (words_left c.next.new.self) c.unwrap_or-column.result c.aggregate_of.result c.in-Some-aggregate_of.agg (aggs_of (words_left c.args.words))
    c.in-Some.ensures.word column_is c.aggregate_of.ensures c.in-Some-aggregate_of.is c.loop-word.invariant)
