-- A client that takes a true packet goes on to hold of its stream.
use Rattle.std.proofs.Common.{◌≡◌, ℕ, true, false, cond, ◌==◌, refl, Some, None}
use Rattle.dpc_lists.specs.Lists.{place_of}
use Rattle.dpc_model.specs.Ports.{Port, held_at, on_beat}
use Rattle.dpc_model.specs.declared.messages.Beat.{Beat}
use Rattle.dpc_model.specs.Actors.{role_of, senders_of}
use Rattle.dpc_model.specs.Inlets.{take_batch, after_tally}
use Rattle.dpc_model.specs.declared.batches.Taken.{Taken}
use Rattle.dpc_model.specs.declared.batches.Taken.TheVariants.{Used, Old, Broken}
use Rattle.dpc_model.specs.declared.messages.Message.{Message}
use Rattle.dpc_model.specs.declared.messages.Message.TheVariants as message
use Rattle.dpc_model.specs.declared.plans.Plan.{Plan}
use Rattle.node_model.specs.Mails.{Packet, Plain, SnapFor}
use Rattle.node_model.specs.Clients.{ClientState, client_stream, reader_of, with_taken, client_after_batch, client_message, client_packet, client_marks_ended, client_after_packet}
use Rattle.world_model.specs.Safe.{HoldsOf, IsTruePacket}
use Rattle.law_safety.proofs.Holding.{take_batch-holds}
use Rattle.law_safety.proofs.Senders.{batch_items}

-- what was taken is written down, and the reader stays
pub reader_of-keeping : (t : Taken) (x : ClientState) → reader_of (with_taken t x) ≡ reader_of x
reader_of-keeping (Used items) x = refl
reader_of-keeping Old x = refl
reader_of-keeping Broken x = refl

-- beats leave what is held
pub held_at-beat : (r : ℕ) (b : Beat) (p : Port) → held_at (on_beat r b p) ≡ held_at p
held_at-beat r b p = elim (r == p.chosen) as (λ d. (cond d (after_tally p.inlet b.tally) p.inlet).held ≡ p.inlet.held) [
  | true ↦ refl
  | false ↦ refl
]

message-holds : (plan : Plan) (c a r : ℕ) (m : Message) (x : ClientState) → place_of (λ b. a == b) (senders_of plan (client_stream plan c)) ≡ Some r →
    IsTruePacket plan (role_of plan a) (Plain m) → HoldsOf plan (client_stream plan c) (reader_of x) → HoldsOf plan (client_stream plan c) (reader_of (client_message r m x))
message-holds plan c a r (message.Batch u index items) x e k h =
    elim (x.port.chosen == r) as (λ d. HoldsOf plan (client_stream plan c) (reader_of (cond d (client_after_batch (take_batch x.port.inlet u index items) x) x))) [
      | true ↦
          let t = take_batch x.port.inlet u index items in
          rw (reader_of-keeping t.answer (record x { port = record x.port { inlet = t.after } }))
          (take_batch-holds plan (client_stream plan c) x.port.inlet u index items h (batch_items plan (client_stream plan c) a r u index items e k))
      | false ↦ h
    ]
message-holds plan c a r (message.Subscribe asked) x e k h = h
message-holds plan c a r (message.Truncated u base) x e k h = h
message-holds plan c a r (message.Beat b) x e k h = rw (held_at-beat r b x.port) h
message-holds plan c a r (message.Ack i n) x e k h = h
message-holds plan c a r (message.Ask i n) x e k h = h
message-holds plan c a r (message.Grant i n) x e k h = h
message-holds plan c a r (message.SnapAsk i n) x e k h = h

packet-holds : (plan : Plan) (c a r : ℕ) (packet : Packet) (x : ClientState) → place_of (λ b. a == b) (senders_of plan (client_stream plan c)) ≡ Some r →
    IsTruePacket plan (role_of plan a) packet → HoldsOf plan (client_stream plan c) (reader_of x) →
    HoldsOf plan (client_stream plan c) (reader_of (client_packet (Some (0, r)) packet x))
packet-holds plan c a r (Plain m) x e k h = message-holds plan c a r m x e k h
packet-holds plan c a r (SnapFor i try s) x e k h = h

pub client_delivered-holds : (plan : Plan) (c a : ℕ) (packet : Packet) (x : ClientState) → IsTruePacket plan (role_of plan a) packet →
    HoldsOf plan (client_stream plan c) (reader_of x) → HoldsOf plan (client_stream plan c) (reader_of (client_after_packet plan c a packet x))
unfolding client_after_packet
client_delivered-holds plan c a packet x k h =
    (elim (place_of (λ b. a == b) (senders_of plan (client_stream plan c))) as (λ o. place_of (λ b. a == b) (senders_of plan (client_stream plan c)) ≡ o →
    HoldsOf plan (client_stream plan c) (reader_of (client_packet (elim o [ None ↦ None | Some r ↦ Some (0, r) ]) packet (client_marks_ended x)))) [
      | None ↦ λ e. h
      | Some r ↦ λ e. packet-holds plan c a r packet (client_marks_ended x) e k h
    ]) refl
