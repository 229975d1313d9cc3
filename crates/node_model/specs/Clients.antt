-- A client: it folds what it takes of one stream.
use Rattle.std.specs.Prelude.{ℕ, Bool, ◌==◌, if◌then◌else◌, List, [], ◌∷◌, ◌++◌, length, Option, Some, None}
use Rattle.dpc_lists.specs.Lists.{nth}
use Rattle.dpc_model.specs.Reading.{Reader, is_settled}
use Rattle.dpc_model.specs.Inlets.{new_inlet, AfterBatch, take_batch}
use Rattle.dpc_model.specs.declared.batches.Taken.{Taken}
use Rattle.dpc_model.specs.declared.batches.Taken.TheVariants.{Used, Old, Broken}
use Rattle.dpc_model.specs.Actors.{inputs_of}
use Rattle.dpc_model.specs.declared.actors.Role.TheVariants.{Client as IsClient}
use Rattle.dpc_model.specs.Ports.{Port, port_at, sender_at, without_ended_marks, on_beat, on_truncated, port_after_tick, port_after_choice, subscriptions, acks_to}
use Rattle.dpc_model.specs.declared.tuples.Item.{Item}
use Rattle.dpc_model.specs.declared.messages.Message.{Message}
use Rattle.dpc_model.specs.declared.messages.Message.TheVariants as message
use Rattle.dpc_model.specs.declared.plans.Plan.{Plan}
use Rattle.dpc_model.specs.declared.plans.StreamRef.{StreamRef}
use Rattle.dpc_model.specs.declared.plans.StreamRef.TheVariants.{Source}
use Rattle.node_model.specs.Mails.{Stepped, mails, Packet, Plain, SnapFor}

-- its port, the items that it took, and the clock
pub record ClientState : Type 0 where
  pub port : Port
  pub taken : List Item
  pub clock : ℕ

-- the stream that a client reads
abbrev pub client_stream : Plan → ℕ → StreamRef
client_stream plan c = nth (Source 0) (inputs_of plan (IsClient c)) 0

unfoldable pub new_client : Plan → ℕ → ClientState
new_client plan c = record { port = port_at plan (new_inlet 1) (client_stream plan c); taken = []; clock = 0 }

abbrev pub reader_of : ClientState → Reader
reader_of x = x.port.inlet.held

-- the client has the whole stream, and nothing that may be corrected
abbrev pub client_settled : Plan → ClientState → Bool
client_settled plan x = is_settled plan.end (reader_of x)

abbrev pub with_taken : Taken → ClientState → ClientState
with_taken (Used items) x = record x { taken = x.taken ++ items }
with_taken Old x = x
with_taken Broken x = x

abbrev pub client_after_batch : AfterBatch → ClientState → ClientState
client_after_batch t x = with_taken t.answer (record x { port = record x.port { inlet = t.after } })

-- what comes from a replica of the stream
abbrev pub client_message : ℕ → Message → ClientState → ClientState
client_message r (message.Batch s index items) x = if x.port.chosen == r then client_after_batch (take_batch x.port.inlet s index items) x else x
client_message r (message.Truncated s base) x = record x { port = on_truncated r s base x.port }
client_message r (message.Beat b) x = record x { port = on_beat r b x.port }
client_message r (message.Subscribe asked) x = x
client_message r (message.Ack i n) x = x
client_message r (message.Ask i n) x = x
client_message r (message.Grant i n) x = x
client_message r (message.SnapAsk i n) x = x

abbrev pub client_packet : Option (ℕ × ℕ) → Packet → ClientState → ClientState
client_packet None packet x = x
client_packet (Some (p, r)) (Plain m) x = client_message r m x
client_packet (Some (p, r)) (SnapFor i try snap) x = x

abbrev pub client_marks_ended : ClientState → ClientState
client_marks_ended x = record x { port = without_ended_marks x.port }

-- a client takes batches, beats and truncations as a port does, and sends nothing
unfoldable pub client_after_packet : Plan → ℕ → ℕ → Packet → ClientState → ClientState
client_after_packet plan c a packet x = client_packet (sender_at plan (client_stream plan c ∷ []) a) packet (client_marks_ended x)

-- at a tick a client chooses a replica, and acknowledges its tuples
unfoldable pub client_tick_step : Plan → ℕ → ℕ → ClientState → Stepped ClientState
client_tick_step plan c now x =
    let port = port_after_tick (without_ended_marks x.port) in
    let sub = subscriptions plan (port ∷ []) (client_stream plan c ∷ []) in
    record {
      after = record x { port = port_after_choice port; clock = now };
      sends = mails sub ++ mails (acks_to plan 1 (length x.port.inlet.held.stable) (client_stream plan c));
    }
