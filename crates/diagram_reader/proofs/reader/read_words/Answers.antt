use Rattle.std.proofs.Common.{sym, ◌∙◌}
use Rattle.script_words.specs.Cursors.{words_left}
use Rattle.script_words.proofs.Faults.{faultless}
use Rattle.diagram_reader.proofs.TakenLines.{taken_words}
use Rattle.diagram_reader.proofs.reader.read_words.Goals as goal

pub returns : goal.returns
returns c =
    let d = c.args.draft.now in
    let words = words_left c.args.words in
    let none = faultless d c.args.keyword words (sym (c.fault_of_words.ensures d c.limits_of-limits.ensures.limits) ∙ c.in_default.is) in
    taken_words d c.said.new.draft c.args.keyword words c.said.result none (sym c.is_its_part.ensures ∙ c.if-not-is_its_part.false) c.said.ensures
