use Rattle.world_model.proofs.Running.{run-push}
use Rattle.law_safety.proofs.one_event_more.Goals as goal

pub returns : goal.returns
returns c = run-push
