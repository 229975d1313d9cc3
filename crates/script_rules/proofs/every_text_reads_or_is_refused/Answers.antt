use Rattle.script_rules.proofs.Refusals.{reads_or_refuses}
use Rattle.script_rules.proofs.every_text_reads_or_is_refused.Goals as goal

pub returns : goal.returns
returns c = reads_or_refuses
