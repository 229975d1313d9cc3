use Rattle.law_session_origins.proofs.OnePort.{read-reads-once}
use Rattle.law_session_origins.proofs.what_is_read_reads_once.Goals as goal

pub returns : goal.returns
returns c = read-reads-once
