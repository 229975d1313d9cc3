use Rattle.std.proofs.Common.{sym, ◌∙◌}
use Rattle.diagram_reader.proofs.Numbered.{header_number}
use Rattle.diagram_reader.proofs.statements.header.Goals as goal

pub number_at-number-requires : goal.number_at-number-requires
number_at-number-requires c = header_number _ c.args.place _ c.requires.place c.requires.faultless

pub returns : goal.returns
returns c =
    let number = c.number_at-number.ensures in
    (rw number at (sym c.fault_of_header.ensures ∙ c.in_default.is), rw number at (c.in_ok-add_header.ensures.ok c.args.place))
