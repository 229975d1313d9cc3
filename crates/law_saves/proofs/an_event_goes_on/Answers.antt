use Rattle.std.proofs.Common.{None, refl}
use Rattle.world_model.specs.Worlds.{new_world, run}
use Rattle.law_saves.specs.Saves.{saved_before}
use Rattle.law_saves.proofs.Going.{from-one}
use Rattle.law_saves.proofs.an_event_goes_on.Goals as goal

pub returns-clause-none : goal.returns-clause-none
unfolding saved_before
returns-clause-none c plan a = refl

pub returns-clause-one : goal.returns-clause-one
unfolding saved_before run
returns-clause-one c plan events e a = from-one a (new_world plan) None events e
