-- Asking to reconcile and granting: what holds in every run.
use Rattle.std.specs.Prelude.{◌≡◌, ℕ, ◌+◌, ◌<◌, ◌≤◌, ◌⊎◌, Bool, true, false, not, ◌&&◌, ◌||◌, Some, None, IfSome, slice_get}
use Rattle.dpc_lists.specs.Lists.{nth}
use Rattle.dpc_model.specs.Granting.{Key, known_over}
use Rattle.dpc_model.specs.Actors.{role_of}
use Rattle.dpc_model.specs.declared.actors.Role.TheVariants.{Node as IsNode}
use Rattle.dpc_model.specs.declared.messages.Message.TheVariants as message
use Rattle.node_model.specs.Mails.{Packet, Plain, SnapFor}
use Rattle.dpc_model.specs.NodeStates.{is_stabilization}
use Rattle.node_model.specs.Nodes.{Home, PlainNode, ready, wants_to_reconcile}
use Rattle.world_model.specs.Worlds.{World, Envelope, Slot, home_of, slot_of}

-- ---- one node

-- a node is reconciling
abbrev pub reconciles : PlainNode → Bool
reconciles n = is_stabilization n.state && not n.recovering

-- a promise is to another replica, to a lower number where an own ask runs, and to an ask that is not known to be over
pub record IsProperPromise (home : Home) (n : PlainNode) (p : ℕ × Key) : Type 0 where
  pub other : p.0 ≡ home.replica → ⊥
  pub lower : n.grants.running ≡ true → p.0 < home.replica
  pub going_on : known_over n.grants p.0 p.1 ≡ false

pub record AsksInOrder (home : Home) (n : PlainNode) : Type 0 where
  -- whoever reconciles has a ready bucket and a running ask, and promised nobody
  pub has_bucket : reconciles n ≡ true → 1 ≤ ready home n
  pub asks : reconciles n ≡ true → n.grants.running ≡ true
  pub promised_nobody : reconciles n ≡ true → n.grants.promise ≡ None
  -- whoever asks wants to reconcile or reconciles
  pub wants : n.grants.running ≡ true → (wants_to_reconcile home n || reconciles n) ≡ true
  pub promise : (p : ℕ × Key) → n.grants.promise ≡ Some p → IsProperPromise home n p

-- ---- what is known of another replica

-- an ask is over: its incarnation came, and where that one is up, its last ask that is over is no earlier one
pub record IsOver (slot : Slot) (key : Key) : Type 0 where
  pub came : key.0 ≤ slot.last_inc
  pub over : IfSome slot.node (λ (x : PlainNode). key.0 ≡ x.grants.inc → key.1 ≤ x.grants.over)

-- an ask runs, or is over
pub record WasAsked (slot : Slot) (key : Key) : Type 0 where
  pub came : key.0 ≤ slot.last_inc
  pub asked : IfSome slot.node (λ (x : PlainNode). key.0 ≡ x.grants.inc → (key.1 ≤ x.grants.over) ⊎ ((key.1 ≡ x.grants.over + 1) × (x.grants.running ≡ true)))

-- what a replica tells of its asks is so: a beat names asks that are over, an ask one that runs or is over
abbrev pub TellsSo : Slot → Packet → Type 0
TellsSo slot (Plain (message.Beat b)) = IsOver slot (b.inc, b.over)
TellsSo slot (Plain (message.Ask i ask)) = WasAsked slot (i, ask)
TellsSo slot (Plain m) = Unit {0}
TellsSo slot (SnapFor i try s) = Unit {0}

-- ---- all nodes

-- a node is up at an actor
pub record IsUpAt (w : World) (a f r : ℕ) (n : PlainNode) : Type 0 where
  pub role : role_of w.plan a ≡ IsNode f r
  pub up : (slot_of w a).node ≡ Some n

pub record AreAsksInOrder (w : World) : Type 0 where
  pub nodes : (a f r : ℕ) (n : PlainNode) → IsUpAt w a f r n → AsksInOrder (home_of w.plan (f, r)) n
  -- who is up is in the last incarnation
  pub incarnation : (a f r : ℕ) (n : PlainNode) → IsUpAt w a f r n → n.grants.inc ≡ (slot_of w a).last_inc
  -- a promise is to a running ask or to one that is over
  pub promises : (a b f r q : ℕ) (n : PlainNode) (key : Key) → IsUpAt w a f r n → role_of w.plan b ≡ IsNode f q → n.grants.promise ≡ Some (q, key) → WasAsked (slot_of w b) key
  -- what was heard of a replica's asks that are over is at most its own
  pub heard : (a b f r q : ℕ) (n : PlainNode) (key : Key) → IsUpAt w a f r n → role_of w.plan b ≡ IsNode f q → nth None n.grants.heard q ≡ Some key → IsOver (slot_of w b) key
  -- and so is what is still on its way
  pub sent : (k f r : ℕ) (e : Envelope) → slice_get w.envelopes k ≡ Some e → role_of w.plan e.sender ≡ IsNode f r → TellsSo (slot_of w e.sender) e.packet
