-- How contracts say what a step leaves of a node, and what it sends.
use Rattle.std.specs.Prelude.{◌≡◌, ℕ, false, List, [], ◌∷◌, length, Option, if◌then◌else◌}
use Rattle.dpc_lists.specs.Lists.{nth}
use Rattle.dpc_model.specs.Ports.{no_port, port_after_choice, subscription}
use Rattle.dpc_model.specs.declared.tuples.Item.TheVariants as item
use Rattle.dpc_model.specs.declared.messages.Sess.{Sess}
use Rattle.dpc_model.specs.declared.messages.NodeState.TheVariants.{Stabilization}
use Rattle.dpc_model.specs.declared.plans.StreamRef.TheVariants.{Source}
use Rattle.dpc_model.specs.declared.messages.Message.{Message}
use Rattle.dpc_model.specs.declared.messages.Message.TheVariants as message
use Rattle.fragment_mill.specs.Mills.{MillState}
use Rattle.pipeline.specs.Recovery.{StandsForSnapshot}
use Rattle.node_model.specs.Stands.{SnapValue}
use Rattle.node_model.specs.Mails.{Snap, Packet, Stepped, mails}
use Rattle.node_model.specs.Nodes.{Home, spec_of, PlainNode, streams_of, out_stable}
use Rattle.node_model.specs.NodeSteps.{give, with_port, idle_step, packet_step, tick_step}
use Rattle.dpc_model.specs.NodeStates.{is_stabilization}
use Rattle.world_model.specs.Safe.{IsSafeNode, Serves}
use Rattle.world_model.specs.Orderly.{IsOrderlyNode}
use Rattle.law_safety.specs.Plans.{IsPlace}
use Rattle.node_core.specs.declared.packets.Packet as code
use Rattle.node_core.specs.declared.packets.Mail as code_mail
use Rattle.node_core.specs.declared.packets.Packet.TheVariants as packet
use Rattle.node_core.specs.declared.sending.Request.{Request}
use Rattle.node_core.specs.declared.sending.Request.TheVariants as request
use Rattle.node_core.specs.Standing.{NodeValue, StandsForNode, StandsForPacket, AreMails}
use Rattle.node_model.specs.Fitting.{IsFit, IsFitMessage, IsFitPacket, IsFitSnap}

-- some fit plain node is stood for
abbrev pub IsSound : NodeValue → Type 0
IsSound v = (home : Home) × (p : PlainNode) × StandsForNode home v p × IsFit home p

-- for every fit plain node that it stood for, it stands for what this makes of it
abbrev pub Follows : (Home → PlainNode → PlainNode) → NodeValue → NodeValue → Type 0
Follows f old new = (home : Home) (p : PlainNode) → StandsForNode home old p → IsFit home p → StandsForNode home new (f home p)

-- and what is sent stands for what this step sends
pub record Steps (f : Home → PlainNode → Stepped PlainNode) (old new : NodeValue) (told : List code_mail.Mail) : Type 0 where
  pub after : Follows (λ home p. (f home p).after) old new
  pub sends : (home : Home) (p : PlainNode) → StandsForNode home old p → IsFit home p → AreMails home told (f home p).sends

-- a tick of a node of every run serves, where it leaves the node outside STABILIZATION
abbrev pub TickServes : ℕ → NodeValue → Type 0
TickServes now v =
    (home : Home) (most : ℕ) (p : PlainNode) → StandsForNode home v p → IsPlace home → IsSafeNode home p → IsOrderlyNode home most p →
    is_stabilization (tick_step home now p).after.state ≡ false → Serves home now p (tick_step home now p)

-- a message as it is sent
abbrev pub plain_mail : ℕ → Message → code_mail.Mail
plain_mail to m = record { to = to; packet = packet.Plain m }

-- ---- steps of which a plain step is made

-- tentative output goes, and the node reconciles
abbrev pub taken_back : Home → PlainNode → Stepped PlainNode
taken_back home p = give home (item.Undo (length (out_stable home p)) ∷ []) (record p { closed = []; state = Stabilization })

-- a replica is chosen for one port
abbrev pub choice_at_port : ℕ → Home → PlainNode → Stepped PlainNode
choice_at_port port home p =
    record { after = with_port port port_after_choice p; sends = mails (subscription home.plan (nth no_port p.ports port) (nth (Source 0) (streams_of home) port)) }

-- a recovering node says nothing to readers
abbrev pub unless_recovering : (Home → PlainNode → Stepped PlainNode) → Home → PlainNode → Stepped PlainNode
unless_recovering f home p = if p.recovering then idle_step p else f home p

-- what a node tells of itself
abbrev pub beat_with : NodeValue → Option (Sess × ℕ) → Message
beat_with v tally = message.Beat (record { inc = v.links.known.grants.inc; state = v.state; recovering = v.recovering; over = v.links.known.grants.over; tally = tally })

-- what is asked of another replica
abbrev pub asked_in : Request → Message
asked_in (request.Reconcile inc ask) = message.Ask inc ask
asked_in (request.Snapshot inc number) = message.SnapAsk inc number

-- ---- what comes

-- it stands for what the plain step leaves, and what is sent for what that sends
pub record IsTakenAs (new : NodeValue) (told : List code_mail.Mail) (home : Home) (step : Stepped PlainNode) : Type 0 where
  pub after : StandsForNode home new step.after
  pub sends : AreMails home told step.sends

-- a fit packet may come from this actor to a fit plain node that is stood for
pub record CanTake (sender : ℕ) (v : NodeValue) (packet : code.Packet) (home : Home) (p : PlainNode) (q : Packet) : Type 0 where
  pub stands : StandsForNode home v p
  pub fit : IsFit home p
  pub alike : StandsForPacket home packet q
  pub fits : IsFitPacket home sender p q

abbrev pub IsTaken : ℕ → NodeValue → List code_mail.Mail → Home → PlainNode → Packet → Type 0
IsTaken sender new sends home p q = IsTakenAs new sends home (packet_step home sender q p)

-- so may a message
pub record CanTakeMessage (sender : ℕ) (v : NodeValue) (m : Message) (home : Home) (p : PlainNode) : Type 0 where
  pub stands : StandsForNode home v p
  pub fit : IsFit home p
  pub fits : IsFitMessage home sender p m

-- and a snapshot may be adopted
pub record CanAdopt (v : NodeValue) (snapshot : SnapValue MillState) (home : Home) (p : PlainNode) (s : Snap) : Type 0 where
  pub stands : StandsForNode home v p
  pub fit : IsFit home p
  pub alike : StandsForSnapshot (spec_of home).ops home.plan.width snapshot s
  pub fits : IsFitSnap home s
