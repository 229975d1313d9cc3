-- How contracts say what a step makes of the place of a node.
use Rattle.std.specs.Prelude.{ℕ, if◌then◌else◌, List, [], Some, None, IfSome}
use Rattle.node_model.specs.Mails.{Packet, Stepped}
use Rattle.node_model.specs.Nodes.{Home, PlainNode}
use Rattle.node_model.specs.NodeSteps.{packet_step, mill_step, tick_step}
use Rattle.node_model.specs.Fitting.{IsFit, IsFitPacket}
use Rattle.node_core.specs.declared.packets.Packet as code
use Rattle.node_core.specs.declared.packets.Mail as code_mail
use Rattle.node_core.specs.Standing.{StandsForPacket, AreMails}
use Rattle.world_model.specs.Worlds.{Slot, can_mill, is_clock}
use Rattle.world_parts.specs.Parts.{SlotValue, StandsForSlot}

-- ---- steps of the plain place

-- nothing happens
abbrev pub still : Slot → Stepped Slot
still slot = record { after = slot; sends = [] }

-- the node that is up makes a step
abbrev pub up_stepped : Slot → Stepped PlainNode → Stepped Slot
up_stepped slot step = record { after = record slot { node = Some step.after }; sends = step.sends }

abbrev pub slot_mills : Home → ℕ → Slot → Stepped Slot
slot_mills home count slot = elim slot.node [ None ↦ still slot | Some p ↦ (if can_mill home count p then up_stepped slot (mill_step home count p) else still slot) ]

abbrev pub slot_takes : Home → ℕ → Packet → Slot → Stepped Slot
slot_takes home sender q slot = elim slot.node [ None ↦ still slot | Some p ↦ up_stepped slot (packet_step home sender q p) ]

abbrev pub slot_ticks : Home → ℕ → Slot → Stepped Slot
slot_ticks home now slot = elim slot.node [ None ↦ still slot | Some p ↦ (if is_clock p.clock now then up_stepped slot (tick_step home now p) else still slot) ]

-- ---- what contracts ask and say

-- it stands for a plain place whose node, where it is up, is fit
pub record CanStep (home : Home) (v : SlotValue) (x : Slot) : Type 0 where
  pub stands : StandsForSlot home v x
  pub fit : IfSome x.node (λ p. IsFit home p)

-- and a packet may come to it
pub record CanCome (sender : ℕ) (home : Home) (v : SlotValue) (x : Slot) (packet : code.Packet) (q : Packet) : Type 0 where
  pub slot : CanStep home v x
  pub alike : StandsForPacket home packet q
  pub fits : IfSome x.node (λ p. IsFitPacket home sender p q)

-- it stands for what the step leaves, and what is sent for what that sends
pub record IsStepped (home : Home) (v : SlotValue) (told : List code_mail.Mail) (step : Stepped Slot) : Type 0 where
  pub after : StandsForSlot home v step.after
  pub sends : AreMails home told step.sends
