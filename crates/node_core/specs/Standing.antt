-- What contracts see of a node, of what it sends, and how these stand for the plain ones.
use Rattle.std.specs.Prelude.{◌≡◌, ℕ, Bool, List}
use Rattle.std.specs.List.{AllZip}
use Rattle.dpc_model.specs.PartStands.{StandsForLinks}
use Rattle.dpc_model.specs.declared.messages.NodeState.{NodeState}
use Rattle.node_model.specs.Mails.{Snap, Packet, Plain, SnapFor, Mail}
use Rattle.node_model.specs.Nodes.{Home, spec_of, own_readers, PlainNode}
use Rattle.node_model.specs.NodeParts.{inputs_of, outputs_of, neighbours_of}
use Rattle.node_links.specs.Linking.{LinksValue}
use Rattle.node_links.specs.Laws.{KnowsNeighbours}
use Rattle.pipeline.specs.Flowing.{PipelineValue, StandsForData}
use Rattle.pipeline.specs.Recovery.{IsSetFor, StandsForSnapshot}
use Rattle.node_core.specs.declared.packets.Packet as code
use Rattle.node_core.specs.declared.packets.Packet.TheVariants as packet
use Rattle.node_core.specs.declared.packets.Mail as code_mail

-- ---- a node

-- its data path, its neighbours, the readers of its output as actors, its clock and state, and whether it is spent
pub record NodeValue : Type 0 where
  pub path : PipelineValue
  pub links : LinksValue
  pub readers : List ℕ
  pub clock : ℕ
  pub state : NodeState
  pub recovering : Bool
  pub spent : Bool

-- a node of this place stands for a plain one where its parts do
pub record StandsForNode (home : Home) (v : NodeValue) (p : PlainNode) : Type 0 where
  pub setting : IsSetFor home.plan (spec_of home) v.path
  pub knows : KnowsNeighbours home v.links
  pub readers : v.readers ≡ own_readers home
  pub path : StandsForData (spec_of home).ops v.path (inputs_of p) (outputs_of p)
  pub links : StandsForLinks v.links.known (neighbours_of p)
  pub clock : v.clock ≡ p.clock
  pub state : v.state ≡ p.state
  pub recovering : v.recovering ≡ p.recovering

-- ---- what it sends

-- a message is sent as it is; a snapshot stands for the plain one
abbrev pub StandsForPacket : Home → code.Packet → Packet → Type 0
StandsForPacket home (packet.Plain m) q = q ≡ Plain m
StandsForPacket home (packet.SnapFor inc try s) q = (t : Snap) × (q ≡ SnapFor inc try t) × StandsForSnapshot (spec_of home).ops home.plan.width s.value t

pub record StandsForMail (home : Home) (m : code_mail.Mail) (q : Mail) : Type 0 where
  pub to : m.to ≡ q.to
  pub packet : StandsForPacket home m.packet q.packet

-- each stands for the plain one in its place
abbrev pub AreMails : Home → List code_mail.Mail → List Mail → Type 0
AreMails home = AllZip (StandsForMail home)
