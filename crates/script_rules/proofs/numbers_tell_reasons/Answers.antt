use Rattle.script_rules.proofs.Numbered.{numbers_tell, reasons_listed}
use Rattle.script_rules.proofs.numbers_tell_reasons.Goals as goal

pub returns : goal.returns
returns c = record { apart = numbers_tell; listed = reasons_listed }
