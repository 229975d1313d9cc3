-- The session (1, 1), which is open at the opening: nobody ever asks for it.
use Rattle.std.specs.Prelude.{◌≡◌, ◌≢◌, Bool, true, false, ℕ, List, ◌++◌, Option, Some, None, slice_get}
use Rattle.dpc_lists.specs.Lists.{nth, IsPrefixOf}
use Rattle.dpc_model.specs.Inlets.{same_sess, sess_of}
use Rattle.dpc_model.specs.Actors.{role_of, inputs_of}
use Rattle.dpc_model.specs.Ports.{Port}
use Rattle.dpc_model.specs.Sessions.{no_session, tally_of}
use Rattle.dpc_model.specs.declared.actors.Role.{Role}
use Rattle.dpc_model.specs.declared.actors.Role.TheVariants.{Source as IsSource, Node as IsNode, Client as IsClient, Nobody}
use Rattle.dpc_model.specs.declared.messages.Sess.{Sess}
use Rattle.dpc_model.specs.declared.messages.Event.{Event}
use Rattle.dpc_model.specs.declared.messages.Message.TheVariants as message
use Rattle.dpc_model.specs.declared.messages.Subscribe.{Subscribe}
use Rattle.dpc_model.specs.declared.plans.Plan.{Plan}
use Rattle.dpc_model.specs.declared.plans.StreamRef.{StreamRef}
use Rattle.node_model.specs.Mails.{Plain}
use Rattle.node_model.specs.Nodes.{PlainNode}
use Rattle.world_model.specs.Worlds.{World, Envelope, slot_of, source_at, new_world, run}
use Rattle.world_model.specs.SessionLaw.{Channel}
use Rattle.law_sessions.specs.Openings.{first_subscription, opened_by}
use Rattle.law_granting.specs.Taken.{batches_in, taken_in, port_of, line_of}

-- no envelope of a run asks for it
abbrev pub FirstIsNeverAsked : Plan → List Event → Type 0
FirstIsNeverAsked plan events =
    (k : ℕ) (e : Envelope) (asked : Subscribe) → slice_get (run plan events).envelopes k ≡ Some e → e.packet ≡ Plain (message.Subscribe asked) → asked.sess ≢ sess_of 1 1

-- so what it was opened by is the opening's subscription
abbrev pub FirstIsOpening : Plan → List Event → Type 0
FirstIsOpening plan events = (l : Channel) → same_sess l.sess (sess_of 1 1) ≡ true → opened_by l (first_subscription l) (new_world plan) events ≡ first_subscription l

-- whether a sender keeps it open for the reader of this place
abbrev pub is_first_link : Option (Sess × ℕ) → Bool
is_first_link None = false
is_first_link (Some u) = same_sess u.0 (sess_of 1 1)

abbrev pub node_keeps : ℕ → Option PlainNode → Bool
node_keeps k None = false
node_keeps k (Some n) = is_first_link (tally_of (nth no_session n.subs k))

abbrev pub role_keeps : World → ℕ → ℕ → Role → Bool
role_keeps w a k (IsSource s) = is_first_link (tally_of (nth no_session (source_at w s).subs k))
role_keeps w a k (IsNode f r) = node_keeps k (slot_of w a).node
role_keeps w a k (IsClient c) = false
role_keeps w a k Nobody = false

abbrev pub keeps_first : World → ℕ → ℕ → Bool
keeps_first w a k = role_keeps w a k (role_of w.plan a)

-- it is open since the opening or not at all: where it isn't open, it isn't open after any more events
abbrev pub FirstStaysShut : Plan → List Event → List Event → Type 0
FirstStaysShut plan events more = (a k : ℕ) → keeps_first (run plan events) a k ≡ false → keeps_first (run plan (events ++ more)) a k ≡ false

-- and the batches that a port took in it are the first ones that its replica sent in it, in order, each once
abbrev pub FirstPrefixTaken : Plan → List Event → Type 0
FirstPrefixTaken plan events =
    (x p : ℕ) (s : StreamRef) (q : Port) → slice_get (inputs_of plan (role_of plan x)) p ≡ Some s → port_of (run plan events) x p ≡ Some q → q.inlet.sess ≡ sess_of 1 1 →
    IsPrefixOf (taken_in plan events x p) (batches_in (line_of plan x s q) 0 (run plan events).envelopes)
