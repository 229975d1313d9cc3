-- Each session that is open, but the first one, was opened by a subscription that its reader sent to its sender.
use Rattle.std.specs.Prelude.{◌≡◌, false, ⊤, ℕ, List, Some, IfSome, slice_get}
use Rattle.dpc_lists.specs.Lists.{nth}
use Rattle.dpc_model.specs.Inlets.{same_sess, sess_of}
use Rattle.dpc_model.specs.Actors.{role_of}
use Rattle.dpc_model.specs.Sessions.{tally_of}
use Rattle.dpc_model.specs.declared.actors.Role.{Role}
use Rattle.dpc_model.specs.declared.actors.Role.TheVariants.{Source as IsSource, Node as IsNode, Client as IsClient, Nobody}
use Rattle.dpc_model.specs.declared.messages.Event.{Event}
use Rattle.dpc_model.specs.declared.messages.Subscribe.{Subscribe}
use Rattle.dpc_model.specs.declared.plans.Plan.{Plan}
use Rattle.dpc_model.specs.declared.sessions.Sub.{Sub}
use Rattle.node_model.specs.Nodes.{PlainNode, own_readers}
use Rattle.node_model.specs.Sources.{source_readers}
use Rattle.world_model.specs.Worlds.{World, Envelope, home_of, new_world, run, slot_of, source_at}
use Rattle.world_model.specs.SessionLaw.{Channel}
use Rattle.law_sessions.specs.Openings.{first_subscription, asks_for, opened_by}

-- an envelope from the session's reader to its sender asks for the session by this subscription
pub record IsSentFor (l : Channel) (es : List Envelope) (asked : Subscribe) : Type 0 where
  pub number : ℕ
  pub envelope : Envelope
  pub there : slice_get es number ≡ Some envelope
  pub asks : asks_for l envelope ≡ Some asked

-- the sessions that a sender keeps open
abbrev pub OpenedByAsking : Plan → List Event → ℕ → List ℕ → List Sub → Type 0
OpenedByAsking plan events a readers subs =
    (k : ℕ) (sub : Sub) → slice_get subs k ≡ Some sub → IfSome (tally_of sub) (λ u. same_sess u.0 (sess_of 1 1) ≡ false →
    let l : Channel = record { sender = a; reader = nth 0 readers k; sess = u.0 } in
    IsSentFor l (run plan events).envelopes (opened_by l (first_subscription l) (new_world plan) events))

abbrev pub OpenedOf : Plan → List Event → World → ℕ → Role → Type 0
OpenedOf plan events w a (IsSource s) = OpenedByAsking plan events a (source_readers plan s) (source_at w s).subs
OpenedOf plan events w a (IsNode f r) = IfSome (slot_of w a).node (λ (n : PlainNode). OpenedByAsking plan events a (own_readers (home_of plan (f, r))) n.subs)
OpenedOf plan events w a (IsClient c) = ⊤
OpenedOf plan events w a Nobody = ⊤

-- every sender
abbrev pub AreOpenedByAsking : Plan → List Event → Type 0
AreOpenedByAsking plan events = (a : ℕ) → OpenedOf plan events (run plan events) a (role_of plan a)
