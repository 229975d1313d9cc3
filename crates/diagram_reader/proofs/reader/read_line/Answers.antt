use Rattle.std.proofs.Common.{sym, ◌∙◌}
use Rattle.script_rules.specs.Lines.{words_of}
use Rattle.diagram_reader.proofs.TakenLines.{foreign_line, skipped_line, unknown_line, taken_line, first_word, known_keyword}
use Rattle.diagram_reader.proofs.reader.read_line.Goals as goal

pub returns-then-has_foreign_byte : goal.returns-then-has_foreign_byte
returns-then-has_foreign_byte c = foreign_line c.args.draft.now c.args.line.now (sym c.has_foreign_byte.ensures ∙ c.if-has_foreign_byte.true)

pub returns-then-is_skipped : goal.returns-then-is_skipped
returns-then-is_skipped c =
    skipped_line c.args.draft.now c.args.line.now (sym c.has_foreign_byte.ensures ∙ c.if-has_foreign_byte.false) (sym c.is_skipped.ensures ∙ c.if-is_skipped.true)

pub read_words-requires : goal.read_words-requires
read_words-requires c = known_keyword c.version_of.result c.word-first.result.now c.in-Some.keyword (sym c.keyword_of.ensures ∙ c.in-Some.is)

pub returns-in-Some : goal.returns-in-Some
returns-in-Some c =
    let first = first_word c.args.draft.now (words_of c.args.line.now) in
    let known = rw (c.version_of.ensures, c.word-first.ensures, c.of-words.ensures, first) at (sym c.keyword_of.ensures ∙ c.in-Some.is) in
    taken_line c.args.draft.now c.read_words.new.draft c.args.line.now c.in-Some.keyword c.read_words.result
    (sym c.has_foreign_byte.ensures ∙ c.if-has_foreign_byte.false) (sym c.is_skipped.ensures ∙ c.if-is_skipped.false) known
    (rw (c.skip.ensures, c.of-words.ensures) at c.read_words.ensures)

pub returns-in-None : goal.returns-in-None
returns-in-None c =
    let first = first_word c.args.draft.now (words_of c.args.line.now) in
    let unknown = rw (c.version_of.ensures, c.word-first.ensures, c.of-words.ensures, first) at (sym c.keyword_of.ensures ∙ c.in-None.is) in
    unknown_line c.args.draft.now c.args.line.now (sym c.has_foreign_byte.ensures ∙ c.if-has_foreign_byte.false) (sym c.is_skipped.ensures ∙ c.if-is_skipped.false) unknown
