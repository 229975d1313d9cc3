use Rattle.std.proofs.Common.{◌≡◌, false, refl, sym, ◌∙◌}
use Rattle.script_rules.specs.Spelling.{is_numeral}
use Rattle.script_words.specs.Cursors.{words_left}
use Rattle.script_words.proofs.Opened.{opens_anything}
use Rattle.script_words.proofs.seen.of_count.Goals as goal

pub returns-in-None-2 : goal.returns-in-None-2
returns-in-None-2 c =
    let other : is_numeral c.args.word.now ≡ false = sym c.is_numeral.ensures ∙ c.if-is_numeral.false in
    record {
      foreign = refl;
      no_number = rw other refl;
      bad = rw other refl;
      opens = opens_anything c.args.word.now (words_left c.args.behind) c.count-most.result other c.count-most.ensures.count;
    }
