use Rattle.law_fit.proofs.Replicas.{replica-made, actor-made}
use Rattle.law_fit.proofs.a_checked_plan_gives_places.Goals as goal

pub returns : goal.returns
returns c = record { by_number = replica-made; by_actor = actor-made }
