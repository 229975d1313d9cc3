use Rattle.script_rules.proofs.Spelled.{reads_expressions, fills_expressions}
use Rattle.script_rules.proofs.printed_expressions_read_back.Goals as goal

pub returns : goal.returns
returns c = record { read = reads_expressions; fill = fills_expressions }
