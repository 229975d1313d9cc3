use Rattle.std.proofs.Common.{sym}
use Rattle.input_parts.proofs.FirstLines.{line_found, rest_found, line_alone, none_behind_line}
use Rattle.input_parts.proofs.openings.first_line.Goals as goal

pub returns-in-Some-clause-line : goal.returns-in-Some-clause-line
returns-in-Some-clause-line c = sym (line_found c.args.bytes.now c.in-Some.i c.in-Some.ensures)

pub returns-in-Some-clause-behind : goal.returns-in-Some-clause-behind
returns-in-Some-clause-behind c = sym (rest_found c.args.bytes.now c.in-Some.i c.in-Some.ensures)

pub returns-in-None-clause-line : goal.returns-in-None-clause-line
returns-in-None-clause-line c = sym (line_alone c.args.bytes.now c.in-None.ensures)

pub returns-in-None-clause-behind : goal.returns-in-None-clause-behind
returns-in-None-clause-behind c = sym (none_behind_line c.args.bytes.now c.in-None.ensures)
