use Rattle.std.proofs.Common.{◌∙◌}
use Rattle.script_words.proofs.Values.{by_digits}
use Rattle.script_words.proofs.spelling.value.Goals as goal

pub returns : goal.returns
returns c = c.signed.ensures ∙ by_digits c.args.word.now
