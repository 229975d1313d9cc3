-- Sessions are asked for once, and answered in one incarnation of the sender.
use Rattle.std.specs.Prelude.{◌≡◌, ℕ, true, IsTrue, List, ◌++◌, Some, slice_get}
use Rattle.dpc_model.specs.Inlets.{same_sess}
use Rattle.dpc_model.specs.Actors.{role_of, sends_stream}
use Rattle.dpc_model.specs.declared.messages.Event.{Event}
use Rattle.dpc_model.specs.declared.messages.Sess.{Sess}
use Rattle.dpc_model.specs.declared.messages.Subscribe.{Subscribe}
use Rattle.dpc_model.specs.declared.messages.Message.TheVariants as message
use Rattle.dpc_model.specs.declared.plans.Plan.{Plan}
use Rattle.dpc_model.specs.declared.plans.StreamRef.{StreamRef}
use Rattle.dpc_model.specs.declared.scripts.Script.{Script}
use Rattle.node_model.specs.Mails.{Plain}
use Rattle.world_model.specs.Worlds.{Envelope, run}
use Rattle.world_model.specs.Schedules.{is_live}
use Rattle.law_granting.specs.Taken.{IsAnsweredIn}
use Rattle.law_readers.specs.Newest.{IsPortOf}
use Rattle.law_readers.specs.Settling.{CanSettle}

-- an envelope in which the reader asks a sender of the stream for a session
pub record AsksFor (plan : Plan) (es : List Envelope) (x : ℕ) (s : StreamRef) (u : Sess) (k : ℕ) : Type 0 where
  pub envelope : Envelope
  pub asked : Subscribe
  pub there : slice_get es k ≡ Some envelope
  pub reader : envelope.sender ≡ x
  pub sender : sends_stream s (role_of plan envelope.to) ≡ true
  pub packet : envelope.packet ≡ Plain (message.Subscribe asked)
  pub session : same_sess asked.sess u ≡ true

-- the senders of a stream are asked for a session of its only port by one envelope
abbrev pub AreAskedOnce : Plan → List Event → Type 0
AreAskedOnce plan events = (x p i j : ℕ) (s : StreamRef) (u : Sess) → IsPortOf plan x p s → AsksFor plan (run plan events).envelopes x s u i → AsksFor plan (run plan events).envelopes x s u j → i ≡ j

-- in a live journal each session was answered in one incarnation of each sender, at every point
abbrev pub AreAnsweredOnce : Script → List Event → Type 0
AreAnsweredOnce script events =
    CanSettle script → IsTrue (is_live script events) → (done rest : List Event) → events ≡ done ++ rest → (x p a : ℕ) (s : StreamRef) (u : Sess) → IsPortOf script.plan x p s → sends_stream s (role_of script.plan a) ≡ true →
    (i : ℕ) × IsAnsweredIn script.plan done (record { sender = a; reader = x; sess = u }) i
