-- What contracts see of all actors and envelopes, and how these stand for the plain world.
use Rattle.std.specs.Prelude.{⊤, ◌≡◌, ℕ, ◌+◌, false, List, [], ◌∷◌, length, Option, Some, None}
use Rattle.std.specs.List.{AllZip}
use Rattle.dpc_model.specs.Actors.{role_of, nodes_of}
use Rattle.dpc_model.specs.declared.actors.Role.{Role}
use Rattle.dpc_model.specs.declared.actors.Role.TheVariants.{Source as IsSource, Node as IsNode, Client as IsClient, Nobody}
use Rattle.dpc_model.specs.declared.messages.Message.{Message}
use Rattle.dpc_model.specs.declared.plans.Plan.{Plan}
use Rattle.node_model.specs.Mails.{Packet, Plain}
use Rattle.node_model.specs.Nodes.{Home, PlainNode}
use Rattle.node_model.specs.Sources.{SourceState}
use Rattle.source_core.specs.Emitting.{SourceValue, IsSourceOf}
use Rattle.client_fold.specs.Folding.{ClientValue, StandForClients}
use Rattle.node_core.specs.declared.packets.Packet as code
use Rattle.node_core.specs.declared.packets.Packet.TheVariants as packet
use Rattle.node_core.specs.Standing.{NodeValue, StandsForNode, StandsForPacket}
use Rattle.world_model.specs.Worlds.{World, Envelope, Slot, home_of, item_count}

-- ---- what contracts see

-- a node's last incarnation, and the node where it is up
pub record SlotValue : Type 0 where
  pub last_inc : ℕ
  pub node : Option NodeValue

-- a packet with its sender and its addressee
pub record EnvelopeValue : Type 0 where
  pub sender : ℕ
  pub to : ℕ
  pub packet : code.Packet

-- all actors by sort, the links that are cut, every envelope, and how many items they carry
pub record WorldPartsValue : Type 0 where
  pub sources : List SourceValue
  pub nodes : List SlotValue
  pub clients : List ClientValue
  pub cuts : List (ℕ × ℕ)
  pub envelopes : List EnvelopeValue
  pub items : ℕ

-- ---- how it stands for the plain world

pub record StandsForSource (plan : Plan) (s : ℕ) (v : SourceValue) (x : SourceState) : Type 0 where
  pub number : v.number ≡ s
  pub of : IsSourceOf plan v
  pub state : v.state ≡ x

-- the sources from number s on, up to the plan's last one
abbrev pub StandForSources : Plan → ℕ → List SourceValue → List SourceState → Type 0
StandForSources plan s [] [] = s ≡ length plan.sources
StandForSources plan s (v ∷ vs) (x ∷ xs) = StandsForSource plan s v x × StandForSources plan (s + 1) vs xs
StandForSources plan s [] (x ∷ xs) = ⊥
StandForSources plan s (v ∷ vs) [] = ⊥

-- a node that is up serves, and stands for one that is up
abbrev pub StandsForUp : Home → Option NodeValue → Option PlainNode → Type 0
StandsForUp home None None = ⊤
StandsForUp home (Some v) (Some p) = StandsForNode home v p × (v.spent ≡ false)
StandsForUp home None (Some p) = ⊥
StandsForUp home (Some v) None = ⊥

pub record StandsForSlot (home : Home) (v : SlotValue) (x : Slot) : Type 0 where
  pub last_inc : v.last_inc ≡ x.last_inc
  pub node : StandsForUp home v.node x.node

-- the nodes of these fragments and replicas
abbrev pub StandForSlots : Plan → List (ℕ × ℕ) → List SlotValue → List Slot → Type 0
StandForSlots plan [] [] [] = ⊤
StandForSlots plan (n ∷ ns) (v ∷ vs) (x ∷ xs) = StandsForSlot (home_of plan n) v x × StandForSlots plan ns vs xs
StandForSlots plan ns vs xs = ⊥

-- what goes to a node of a fragment stands for a plain packet of that fragment; to others goes no snapshot
abbrev pub StandsForSent : Plan → Role → code.Packet → Packet → Type 0
StandsForSent plan (IsNode f r) p q = StandsForPacket (home_of plan (f, r)) p q
StandsForSent plan (IsSource s) p q = (m : Message) × (p ≡ packet.Plain m) × (q ≡ Plain m)
StandsForSent plan (IsClient c) p q = (m : Message) × (p ≡ packet.Plain m) × (q ≡ Plain m)
StandsForSent plan Nobody p q = (m : Message) × (p ≡ packet.Plain m) × (q ≡ Plain m)

pub record StandsForEnvelope (plan : Plan) (v : EnvelopeValue) (x : Envelope) : Type 0 where
  pub sender : v.sender ≡ x.sender
  pub to : v.to ≡ x.to
  pub packet : StandsForSent plan (role_of plan x.to) v.packet x.packet

pub record StandsForWorld (plan : Plan) (v : WorldPartsValue) (x : World) : Type 0 where
  pub plan_is : x.plan ≡ plan
  pub sources : StandForSources plan 0 v.sources x.sources
  pub nodes : StandForSlots plan (nodes_of plan) v.nodes x.nodes
  pub clients : StandForClients plan 0 v.clients x.clients
  pub cuts : v.cuts ≡ x.cuts
  pub envelopes : AllZip (StandsForEnvelope plan) v.envelopes x.envelopes
  pub items : v.items ≡ item_count x x.envelopes
