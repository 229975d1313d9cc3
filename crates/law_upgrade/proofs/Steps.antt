-- Actors take the same steps: the version stands in nothing that a step looks at.
use Rattle.std.proofs.Common.{◌≡◌, ℕ, ◌+◌, ◌==◌, List, [], ◌∷◌, refl, ap, Option, Some, None}
use Rattle.dpc_lists.specs.Lists.{place_of}
use Rattle.dpc_model.specs.Actors.{senders_of}
use Rattle.dpc_model.specs.Ports.{sender_from}
use Rattle.dpc_model.specs.declared.messages.Message.{Message}
use Rattle.dpc_model.specs.declared.messages.Message.TheVariants as message
use Rattle.dpc_model.specs.declared.plans.Plan.{Plan}
use Rattle.dpc_model.specs.declared.plans.StreamRef.{StreamRef}
use Rattle.node_model.specs.Mails.{Packet, Plain, SnapFor}
use Rattle.node_model.specs.Nodes.{Home, PlainNode, streams_of, out_stable, out_with_closed, out_tentative, ready}
use Rattle.node_model.specs.NodeSteps.{idle_step, on_batch, on_truncation, on_upstream_beat, on_peer_beat, replica_number, on_message, packet_step, mill_step, tick_step, enter_step, after_loss, after_adoption, with_marks_ended}
use Rattle.node_model.specs.Clients.{ClientState, client_stream, client_packet, client_marks_ended, client_after_packet}
use Rattle.law_upgrade.specs.Upgrading.{upgraded_plan, upgraded_home}

-- the port and the replica that an actor is
sender-same : (p : ℕ) (plan : Plan) (ss : List StreamRef) (a : ℕ) → sender_from p (upgraded_plan plan) ss a ≡ sender_from p plan ss a
sender-same p plan [] a = refl
sender-same p plan (s ∷ ss) a =
    ap (λ (o : Option (ℕ × ℕ)). elim (place_of (λ b. a == b) (senders_of plan s)) as (λ _. Option (ℕ × ℕ)) [ None ↦ o | Some r ↦ Some (p, r) ]) (sender-same (p + 1) plan ss a)

-- ---- a node

sent-to : (home : Home) (a : ℕ) (f : Option (ℕ × ℕ) → PlainNode) → f (sender_from 0 (upgraded_plan home.plan) (streams_of home) a) ≡ f (sender_from 0 home.plan (streams_of home) a)
sent-to home a f = ap f (sender-same 0 home.plan (streams_of home) a)

message-same : (home : Home) (a : ℕ) (m : Message) (n : PlainNode) → on_message (upgraded_home home) a m n ≡ on_message home a m n
unfolding out_stable out_with_closed out_tentative enter_step after_loss
message-same home a (message.Batch s index items) n = ap idle_step (sent-to home a (λ o. on_batch home s index items o n))
message-same home a (message.Subscribe asked) n = refl
message-same home a (message.Truncated s base) n = ap idle_step (sent-to home a (λ o. on_truncation home s base o n))
message-same home a (message.Beat b) n = ap idle_step (sent-to home a (λ o. on_peer_beat b (replica_number home a) (on_upstream_beat b o n)))
message-same home a (message.Ack i count) n = refl
message-same home a (message.Ask i ask) n = refl
message-same home a (message.Grant i ask) n = refl
message-same home a (message.SnapAsk i try) n = refl

pub packet-same : (home : Home) (a : ℕ) (p : Packet) (n : PlainNode) → packet_step (upgraded_home home) a p n ≡ packet_step home a p n
unfolding packet_step after_adoption
packet-same home a (Plain m) n = message-same home a m (with_marks_ended n)
packet-same home a (SnapFor i try s) n = refl

pub mill-same : (home : Home) (r : ℕ) (n : PlainNode) → mill_step (upgraded_home home) r n ≡ mill_step home r n
unfolding mill_step out_stable ready
mill-same home r n = refl

pub tick-same : (home : Home) (now : ℕ) (n : PlainNode) → tick_step (upgraded_home home) now n ≡ tick_step home now n
unfolding tick_step out_stable out_with_closed out_tentative enter_step
tick-same home now n = refl

-- ---- a client

pub client-takes-same : (plan : Plan) (c a : ℕ) (p : Packet) (x : ClientState) → client_after_packet (upgraded_plan plan) c a p x ≡ client_after_packet plan c a p x
unfolding client_after_packet
client-takes-same plan c a p x = ap (λ (o : Option (ℕ × ℕ)). client_packet o p (client_marks_ended x)) (sender-same 0 plan (client_stream plan c ∷ []) a)
