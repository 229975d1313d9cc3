-- Each tentative tuple that a client took was sent to it, and stood in its sender's tentative output then.
use Rattle.std.specs.Prelude.{◌≡◌, ℕ, ◌≤◌, List, ◌∷◌, ◌++◌, length, drop, Contains, Some, slice_get}
use Rattle.dpc_model.specs.Actors.{role_of}
use Rattle.dpc_model.specs.declared.actors.Role.TheVariants.{Client as IsClient}
use Rattle.dpc_model.specs.declared.tuples.Tuple.{Tuple}
use Rattle.dpc_model.specs.declared.tuples.Item.{Item}
use Rattle.dpc_model.specs.declared.tuples.Item.TheVariants.{Tentative}
use Rattle.dpc_model.specs.declared.messages.Event.{Event}
use Rattle.dpc_model.specs.declared.messages.Event.TheVariants.{Deliver}
use Rattle.dpc_model.specs.declared.plans.Plan.{Plan}
use Rattle.world_model.specs.Worlds.{World, Envelope, client_at, happens, run}
use Rattle.world_model.specs.Orderly.{items_carried}
use Rattle.law_sessions.specs.Laws.{tentative_output}

-- the items that a client takes at an event
abbrev pub takes : World → Event → ℕ → List Item
takes w e c = drop (length (client_at w c).taken) (client_at (happens w e) c).taken

-- an event of a run sent this envelope, which has this number, and the tuple stood in its sender's tentative output after that event
pub record StoodThen (plan : Plan) (events : List Event) (k : ℕ) (envelope : Envelope) (t : Tuple) : Type 0 where
  pub before : List Event
  pub event : Event
  pub behind : List Event
  pub split : events ≡ before ++ (event ∷ behind)
  pub new : length (run plan before).envelopes ≤ k
  pub sent : slice_get (happens (run plan before) event).envelopes k ≡ Some envelope
  pub stood : Contains (tentative_output (happens (run plan before) event) envelope.sender (role_of plan envelope.sender)) t

-- a tentative tuple came to a client by an envelope, which carries it and was sent while the tuple stood
pub record CameStanding (plan : Plan) (events : List Event) (e : Event) (c : ℕ) (t : Tuple) : Type 0 where
  pub number : ℕ
  pub delivers : e ≡ Deliver number
  pub envelope : Envelope
  pub there : slice_get (run plan events).envelopes number ≡ Some envelope
  pub to : role_of plan envelope.to ≡ IsClient c
  pub carried : Contains (items_carried envelope.packet) (Tentative t)
  pub stood : StoodThen plan events number envelope t

-- whatever event comes next, each tentative tuple that a client takes then came so
abbrev pub TakenStood : Plan → List Event → Event → Type 0
TakenStood plan events e = (c : ℕ) (t : Tuple) → Contains (takes (run plan events) e c) (Tentative t) → CameStanding plan events e c t

-- so of all items that a client took in a run
pub record CameOnce (plan : Plan) (events : List Event) (c : ℕ) (t : Tuple) : Type 0 where
  pub before : List Event
  pub event : Event
  pub behind : List Event
  pub split : events ≡ before ++ (event ∷ behind)
  pub came : CameStanding plan before event c t

abbrev pub AllTakenStood : Plan → List Event → Type 0
AllTakenStood plan events = (c : ℕ) (t : Tuple) → Contains (client_at (run plan events) c).taken (Tentative t) → CameOnce plan events c t
