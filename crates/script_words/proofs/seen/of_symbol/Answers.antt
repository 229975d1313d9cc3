use Rattle.std.proofs.Common.{◌∙◌, ap, ◌&&◌, not}
use Rattle.script_rules.specs.Spelling.{is_value}
use Rattle.script_words.proofs.Seeing.{symbol_seen}
use Rattle.script_words.proofs.seen.of_symbol.Goals as goal

pub returns : goal.returns
returns c =
    rw (c.is_foreign.ensures, c.lacks_value-no_value.ensures, c.operands.ensures)
    (symbol_seen c.symbol_of-symbol.result c.args.word.now c.is_no_value.result c.symbol_of-symbol.ensures (c.is_no_value.ensures ∙ ap (λ t. t && not (is_value c.args.word.now)) c.lacks_value-no_value.ensures))
