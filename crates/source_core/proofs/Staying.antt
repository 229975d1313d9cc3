-- A source stays one of its plan at each step.
use Rattle.std.proofs.Common.{ℕ, ◌≤◌, length, refl, arith, Option, Some, None, ◌==◌}
use Rattle.dpc_lists.specs.Lists.{place_of}
use Rattle.dpc_model.specs.Fragments.{log_of}
use Rattle.dpc_model.specs.Streams.{count_below}
use Rattle.dpc_model.specs.declared.messages.Subscribe.{Subscribe}
use Rattle.dpc_model.specs.declared.messages.Message.{Message}
use Rattle.dpc_model.specs.declared.messages.Message.TheVariants as message
use Rattle.dpc_model.specs.declared.plans.Plan.{Plan}
use Rattle.dpc_model.proofs.Prefixes.{length-filter_le}
use Rattle.node_model.specs.Mails.{Packet, Plain, SnapFor}
use Rattle.node_model.specs.Sources.{source_readers, new_source, emitted_upto, source_emits, source_releases, source_subscribed, source_message, source_packet_step, source_tick_step}
use Rattle.source_core.specs.Emitting.{SourceValue, IsSourceOf, after_step}
use Rattle.source_core.specs.Laws.{Opens, StaysOne}

pub opens : Opens
unfolding new_source
opens plan s low o = record { number = low; readers = refl; in_order = o; emitted = omega arith }

-- no more is emitted than is logged
upto-low : (plan : Plan) (v : SourceValue) (t : ℕ) → IsSourceOf plan v → emitted_upto plan v.number t v.state ≤ length (log_of plan v.number)
upto-low plan v t h =
    let below : count_below (log_of plan v.number) t ≤ length (log_of plan v.number) = length-filter_le _ (log_of plan v.number) in
    let emitted = h.emitted in omega (arith, below, emitted)

emits : (plan : Plan) (v : SourceValue) (t : ℕ) → IsSourceOf plan v → IsSourceOf plan (after_step v (source_emits plan v.number t v.state))
unfolding source_emits
emits plan v t h = record { number = h.number; readers = h.readers; in_order = h.in_order; emitted = upto-low plan v t h }

releases : (plan : Plan) (v : SourceValue) (t : ℕ) → IsSourceOf plan v → IsSourceOf plan (after_step v (source_releases plan v.number t v.state))
unfolding source_releases
releases plan v t h = record { number = h.number; readers = h.readers; in_order = h.in_order; emitted = upto-low plan v t h }

ticks : (plan : Plan) (v : SourceValue) (now : ℕ) → IsSourceOf plan v → IsSourceOf plan (after_step v (source_tick_step plan v.number now v.state))
unfolding source_tick_step
ticks plan v now h = record { number = h.number; readers = h.readers; in_order = h.in_order; emitted = h.emitted }

subscribed : (plan : Plan) (v : SourceValue) (asked : Subscribe) (o : Option ℕ) → IsSourceOf plan v → IsSourceOf plan (after_step v (source_subscribed plan v.number asked o v.state))
subscribed plan v asked None h = h
subscribed plan v asked (Some k) h = record { number = h.number; readers = h.readers; in_order = h.in_order; emitted = h.emitted }

takes : (plan : Plan) (v : SourceValue) (sender : ℕ) (m : Message) → IsSourceOf plan v → IsSourceOf plan (after_step v (source_message plan v.number sender m v.state))
takes plan v a (message.Subscribe asked) h = subscribed plan v asked (place_of (λ b. a == b) (source_readers plan v.number)) h
takes plan v a (message.Batch u index items) h = h
takes plan v a (message.Truncated u base) h = h
takes plan v a (message.Beat b) h = h
takes plan v a (message.Ack i n) h = h
takes plan v a (message.Ask i n) h = h
takes plan v a (message.Grant i n) h = h
takes plan v a (message.SnapAsk i n) h = h

hears : (plan : Plan) (v : SourceValue) (sender : ℕ) (p : Packet) → IsSourceOf plan v → IsSourceOf plan (after_step v (source_packet_step plan v.number sender p v.state))
unfolding source_packet_step
hears plan v a (Plain m) h = takes plan v a m h
hears plan v a (SnapFor i try snap) h = h

pub stays-one : StaysOne
stays-one plan v h =
    record {
      emits = λ t. emits plan v t h;
      releases = λ t. releases plan v t h;
      takes = λ a m. takes plan v a m h;
      hears = λ a p. hears plan v a p h;
      ticks = λ now. ticks plan v now h;
    }
