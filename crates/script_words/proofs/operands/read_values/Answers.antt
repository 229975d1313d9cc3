use Rattle.std.proofs.Common.{FitsSigned, w64, ap, ◌∙◌, rules}
use Rattle.std.specs.Prelude.{map, pos}
use Rattle.std.specs.Option.{unwrap_or}
use Rattle.std.proofs.lemmas.Int.{to_z-of_z}
use Rattle.script_rules.specs.Spelling.{value}
use Rattle.script_words.specs.Cursors.{words_left}
use Rattle.script_words.proofs.ReadOperands.{value_more}
use Rattle.script_words.proofs.operands.read_values.Goals as goal

pub loop-word-preserved : goal.loop-word-preserved
loop-word-preserved c =
    let z = c.unwrap_or.result in
    let fits : FitsSigned w64 z = search rules in
    rw (c.in_ok-push.ensures, to_z-of_z w64 z fits)
    (value_more c.loop-word.vals c.in-Some.word.now (words_left c.loop-word.words) (words_left c.next.new.self) (map value (words_left c.args.words)) z c.in-Some.ensures.word (c.unwrap_or.ensures ∙ ap (λ o. unwrap_or o (pos 0)) c.value.ensures) c.loop-word.invariant)
