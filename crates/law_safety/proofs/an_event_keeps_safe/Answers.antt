use Rattle.law_safety.proofs.Law.{event-keeps, event-safe}
use Rattle.law_safety.proofs.an_event_keeps_safe.Goals as goal

pub returns : goal.returns
returns c = record { keeps = event-keeps; step = event-safe }
