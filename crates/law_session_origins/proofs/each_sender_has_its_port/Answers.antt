use Rattle.law_session_origins.proofs.OnePort.{finds-senders}
use Rattle.law_session_origins.proofs.each_sender_has_its_port.Goals as goal

pub returns : goal.returns
returns c = finds-senders
