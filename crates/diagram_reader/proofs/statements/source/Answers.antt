use Rattle.std.proofs.Common.{sym, ◌∙◌}
use Rattle.diagram_reader.proofs.Numbered.{source_columns, source_first}
use Rattle.diagram_reader.proofs.statements.source.Goals as goal

pub number_at-columns-requires : goal.number_at-columns-requires
number_at-columns-requires c = (source_columns _ _ c.requires.faultless).0

pub add_source-requires-clause-few : goal.add_source-requires-clause-few
add_source-requires-clause-few c = rw c.number_at-columns.ensures (source_columns _ _ c.requires.faultless).2

pub add_source-requires-clause-part : goal.add_source-requires-clause-part
add_source-requires-clause-part c = source_first c.args.draft.now c.requires.part

pub returns-in-Some : goal.returns-in-Some
returns-in-Some c = rw c.word-name.ensures at (sym (c.fault_of_source.ensures c.number_at-columns.result) ∙ c.in-Some.is)

pub returns : goal.returns
returns c =
    let name = c.word-name.ensures in
    let columns = c.number_at-columns.ensures in
    (rw name at (sym (c.fault_of_source.ensures c.number_at-columns.result) ∙ c.in_default.is), rw (name, columns) at c.in_ok-add_source.ensures.ok)
