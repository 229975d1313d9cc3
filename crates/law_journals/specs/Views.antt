-- What a port holds that took all of its session.
use Rattle.std.specs.Prelude.{◌≡◌, false, ℕ, List, Some, slice_get}
use Rattle.dpc_model.specs.Actors.{role_of, inputs_of}
use Rattle.dpc_model.specs.Inlets.{same_sess, sess_of}
use Rattle.dpc_model.specs.Ports.{Port}
use Rattle.dpc_model.specs.Sessions.{Shown}
use Rattle.dpc_model.specs.declared.messages.Event.{Event}
use Rattle.dpc_model.specs.declared.messages.Subscribe.{Subscribe}
use Rattle.dpc_model.specs.declared.plans.Plan.{Plan}
use Rattle.dpc_model.specs.declared.plans.StreamRef.{StreamRef}
use Rattle.world_model.specs.Worlds.{new_world, run}
use Rattle.world_model.specs.SessionLaw.{Channel, Fits, taken_whole}
use Rattle.law_sessions.specs.Openings.{first_subscription, opened_by}
use Rattle.law_granting.specs.Taken.{line_of}
use Rattle.law_readers.specs.Held.{HasRead, shown_by, TookAll}
use Rattle.law_session_origins.specs.Asking.{IsSentFor}

-- the subscription that a session was opened by
abbrev pub opening_in : Plan → List Event → Channel → Subscribe
opening_in plan events l = opened_by l (first_subscription l) (new_world plan) events

-- a port holds the sender's view, from what it held when it asked for its session; its reader sent the subscription, where that isn't the
-- opening's
pub record HoldsAsAsked (plan : Plan) (events : List Event) (x : ℕ) (s : StreamRef) (q : Port) (shows : Shown) : Type 0 where
  pub read : HasRead plan x s (run plan events).envelopes q
  pub asked : same_sess q.inlet.sess (sess_of 1 1) ≡ false →
      IsSentFor (line_of plan x s q) (run plan events).envelopes (opening_in plan events (line_of plan x s q))
  pub fits : Fits plan s (opening_in plan events (line_of plan x s q)) read.start
  pub view : q.inlet.held ≡ taken_whole plan s (opening_in plan events (line_of plan x s q)) shows read.start

-- each port that misses no batch and took as many of its session as the sender sent
abbrev pub AreHeldAsAsked : Plan → List Event → Type 0
AreHeldAsAsked plan events =
    (x p a : ℕ) (s : StreamRef) (q : Port) (shows : Shown) → slice_get (inputs_of plan (role_of plan x)) p ≡ Some s → TookAll plan (run plan events) x p s q a →
    shown_by plan (run plan events) a (role_of plan a) ≡ Some shows → HoldsAsAsked plan events x s q shows
