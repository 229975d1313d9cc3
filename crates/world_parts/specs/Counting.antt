-- How many items packets carry, and what posting mails leaves.
use Rattle.std.specs.Prelude.{◌≡◌, ℕ, ◌+◌, ◌<◌, ◌≤◌, ◌⊎◌, List, [], ◌∷◌, ◌++◌, length, map}
use Rattle.dpc_model.specs.Limits.{most_envelopes, most_items}
use Rattle.node_core.specs.declared.packets.Packet as code
use Rattle.node_core.specs.declared.packets.Packet.TheVariants as packet
use Rattle.node_core.specs.declared.packets.Mail as code_mail
use Rattle.world_model.specs.Worlds.{items_in_message}
use Rattle.world_parts.specs.Parts.{WorldPartsValue, EnvelopeValue}

-- those of a batch, or the tuples that a snapshot keeps
abbrev pub items_carried : code.Packet → ℕ
items_carried (packet.Plain m) = items_in_message m
items_carried (packet.SnapFor inc number s) = length s.value.kept

abbrev pub all_carried : List code_mail.Mail → ℕ
all_carried [] = 0
all_carried (m ∷ mails) = items_carried m.packet + all_carried mails

-- a mail becomes an envelope
abbrev pub posted : ℕ → code_mail.Mail → EnvelopeValue
posted sender m = record { sender = sender; to = m.to; packet = m.packet }

abbrev pub with_posted : ℕ → List code_mail.Mail → WorldPartsValue → WorldPartsValue
with_posted sender mails v = record v { envelopes = v.envelopes ++ map (posted sender) mails; items = v.items + all_carried mails }

-- no more envelopes, nor items, than a run may have
pub record IsWithinLimits (v : WorldPartsValue) : Type 0 where
  pub envelopes : length v.envelopes ≤ most_envelopes
  pub items : v.items ≤ most_items

-- so many envelopes, or items, are too many
abbrev pub IsPastLimits : WorldPartsValue → Type 0
IsPastLimits v = (most_envelopes < length v.envelopes) ⊎ (most_items < v.items)

-- these are the numbers, and they are too many
pub record IsTooLong (envelopes items : ℕ) (v : WorldPartsValue) : Type 0 where
  pub envelopes_are : envelopes ≡ length v.envelopes
  pub items_are : items ≡ v.items
  pub past : IsPastLimits v
