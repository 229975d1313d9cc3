-- What stays of a source at every step.
use Rattle.std.specs.Prelude.{ℕ, ◌<◌, length}
use Rattle.dpc_model.specs.Streams.{InOrder}
use Rattle.dpc_model.specs.Fragments.{log_of}
use Rattle.dpc_model.specs.declared.messages.Message.{Message}
use Rattle.dpc_model.specs.declared.plans.Plan.{Plan}
use Rattle.node_model.specs.Mails.{Packet}
use Rattle.node_model.specs.Sources.{source_emits, source_releases, source_message, source_packet_step, source_tick_step}
use Rattle.source_core.specs.Emitting.{SourceValue, IsSourceOf, opening_source, after_step}

-- a source of a plan at the opening
abbrev pub Opens : Type 0
Opens = (plan : Plan) (s : ℕ) → s < length plan.sources → InOrder (log_of plan s) → IsSourceOf plan (opening_source plan s)

-- it stays one, whatever it does
pub record Stays (plan : Plan) (v : SourceValue) : Type 0 where
  pub emits : (t : ℕ) → IsSourceOf plan (after_step v (source_emits plan v.number t v.state))
  pub releases : (t : ℕ) → IsSourceOf plan (after_step v (source_releases plan v.number t v.state))
  pub takes : (sender : ℕ) (m : Message) → IsSourceOf plan (after_step v (source_message plan v.number sender m v.state))
  pub hears : (sender : ℕ) (p : Packet) → IsSourceOf plan (after_step v (source_packet_step plan v.number sender p v.state))
  pub ticks : (now : ℕ) → IsSourceOf plan (after_step v (source_tick_step plan v.number now v.state))

abbrev pub StaysOne : Type 0
StaysOne = (plan : Plan) (v : SourceValue) → IsSourceOf plan v → Stays plan v
