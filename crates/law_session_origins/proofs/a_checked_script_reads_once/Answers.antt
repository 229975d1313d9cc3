use Rattle.law_session_origins.proofs.OnePort.{checked-reads-once}
use Rattle.law_session_origins.proofs.a_checked_script_reads_once.Goals as goal

pub returns : goal.returns
returns c = checked-reads-once
