-- What every run of a checked plan keeps, whatever happened in it, all together.
use Rattle.std.specs.Prelude.{List}
use Rattle.dpc_model.specs.declared.messages.Event.{Event}
use Rattle.dpc_model.specs.declared.plans.Plan.{Plan}
use Rattle.world_model.specs.Safe.{IsSafe}
use Rattle.law_granting.specs.Meanwhile.{ServesMeanwhile}
use Rattle.law_granting.specs.Taken.{PrefixTaken}
use Rattle.law_safety.specs.Promises.{AllSentIsTrue, ReadersAreRight, OutputsAreRight, DoneLeavesNothing, DoneIsSurelySent, NoneWaits}
use Rattle.law_sessions.specs.Laws.{SessionLaw, NoneIsInvented}

pub record KeepsPromises (plan : Plan) (events : List Event) : Type 0 where
  -- it is safe, and so, a sentence each:
  pub safe : IsSafe plan events
  -- what was sent agrees with the failure-free output
  pub sent : AllSentIsTrue plan events
  -- what readers hold stably is a beginning of it, and is all of it below their bounds
  pub readers : ReadersAreRight plan events
  -- so are the stable outputs, up to the cursor
  pub outputs : OutputsAreRight plan events
  -- a client that takes rec_done holds nothing tentative then, and who sends it has nothing left to correct
  pub done : DoneLeavesNothing plan events
  pub surely : DoneIsSurelySent plan events
  -- a tick that leaves a node outside STABILIZATION leaves it with no bucket due
  pub due : NoneWaits plan events
  -- each open session leaves its reader with its sender's view
  pub sessions : SessionLaw plan events
  -- the batches that were taken in a session are the first ones that were sent in it
  pub prefix : PrefixTaken plan events
  -- each tentative tuple stood when it was sent
  pub invented : NoneIsInvented plan events
  -- who granted serves meanwhile
  pub meanwhile : ServesMeanwhile plan
