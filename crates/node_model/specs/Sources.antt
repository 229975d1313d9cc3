-- A source: it logs its tuples, and sends them as they are emitted.
use Rattle.std.specs.Prelude.{ℕ, true, false, ◌==◌, nat_lt, max, if◌then◌else◌, List, [], map, take, drop, zip, Option, Some, None}
use Rattle.dpc_lists.specs.Lists.{place_of}
use Rattle.dpc_model.specs.Streams.{count_below}
use Rattle.dpc_model.specs.Fragments.{log_of}
use Rattle.dpc_model.specs.Actors.{readers_of}
use Rattle.dpc_model.specs.declared.messages.Sess.{Sess}
use Rattle.dpc_model.specs.declared.messages.Subscribe.{Subscribe}
use Rattle.dpc_model.specs.declared.messages.Message.{Message}
use Rattle.dpc_model.specs.declared.messages.Message.TheVariants as message
use Rattle.dpc_model.specs.declared.messages.NodeState.TheVariants.{Stable}
use Rattle.dpc_model.specs.declared.plans.Plan.{Plan}
use Rattle.dpc_model.specs.declared.plans.StreamRef.TheVariants.{Source}
use Rattle.dpc_model.specs.Sessions.{opening_session, tally_of, Shown, Given, given_items}
use Rattle.dpc_model.specs.declared.sessions.Sub.{Sub}
use Rattle.node_model.specs.Mails.{Stepped, mail, Packet, Plain, SnapFor, to_sessions, to_subscriber}

-- how many tuples of its log were emitted, its last boundary (0 where none was released), the readers' sessions, and the clock
pub record SourceState : Type 0 where
  pub emitted : ℕ
  pub bound : ℕ
  pub subs : List Sub
  pub clock : ℕ

abbrev pub source_readers : Plan → ℕ → List ℕ
source_readers plan s = readers_of plan (Source s)

unfoldable pub new_source : Plan → ℕ → SourceState
new_source plan s = record { emitted = 0; bound = 0; subs = map (λ _. opening_session) (source_readers plan s); clock = 0 }

-- a boundary with the number of logged tuples below it
abbrev pub bound_at : Plan → ℕ → ℕ → Option (ℕ × ℕ)
bound_at plan s b = if b == 0 then None else Some (b, count_below (log_of plan s) b)

abbrev pub source_shown : Plan → ℕ → SourceState → Shown
source_shown plan s x =
    record { stable = take x.emitted (log_of plan s); bound = bound_at plan s x.bound; tentative = []; passed = None; base = 0; is_stable = true }

-- how many tuples are emitted once those below a time are
abbrev pub emitted_upto : Plan → ℕ → ℕ → SourceState → ℕ
emitted_upto plan s t x = max x.emitted (count_below (log_of plan s) t)

-- the logged tuples below a time that were not emitted yet, and perhaps a boundary
abbrev pub source_given : Plan → ℕ → ℕ → Option (ℕ × ℕ) → SourceState → Given
source_given plan s t bound x =
    record { stable = drop x.emitted (take (emitted_upto plan s t x) (log_of plan s)); bound = bound; tentative = []; passed = None; done = false }

-- they go in one batch to each open session
abbrev pub source_gives : Plan → ℕ → ℕ → Option (ℕ × ℕ) → SourceState → Stepped SourceState
source_gives plan s t bound x =
    let y = to_sessions (source_readers plan s) (given_items x.emitted (source_given plan s t bound x)) x.subs in
    record { after = record x { emitted = emitted_upto plan s t x; subs = y.after }; sends = y.sends }

unfoldable pub source_emits : Plan → ℕ → ℕ → SourceState → Stepped SourceState
source_emits plan s t x = source_gives plan s t None x

unfoldable pub source_releases : Plan → ℕ → ℕ → SourceState → Stepped SourceState
source_releases plan s t x = source_gives plan s t (if nat_lt x.bound t then bound_at plan s t else None) (record x { bound = max x.bound t })

abbrev pub source_subscribed : Plan → ℕ → Subscribe → Option ℕ → SourceState → Stepped SourceState
source_subscribed plan s asked None x = record { after = x; sends = [] }
source_subscribed plan s asked (Some k) x =
    let y = to_subscriber (source_readers plan s) (source_shown plan s x) k asked x.subs in record { after = record x { subs = y.after }; sends = y.sends }

abbrev pub source_message : Plan → ℕ → ℕ → Message → SourceState → Stepped SourceState
source_message plan s a (message.Subscribe asked) x = source_subscribed plan s asked (place_of (λ b. a == b) (source_readers plan s)) x
source_message plan s a (message.Batch u index items) x = record { after = x; sends = [] }
source_message plan s a (message.Truncated u base) x = record { after = x; sends = [] }
source_message plan s a (message.Beat b) x = record { after = x; sends = [] }
source_message plan s a (message.Ack i n) x = record { after = x; sends = [] }
source_message plan s a (message.Ask i n) x = record { after = x; sends = [] }
source_message plan s a (message.Grant i n) x = record { after = x; sends = [] }
source_message plan s a (message.SnapAsk i n) x = record { after = x; sends = [] }

-- a source answers subscriptions, and ignores all else
unfoldable pub source_packet_step : Plan → ℕ → ℕ → Packet → SourceState → Stepped SourceState
source_packet_step plan s a (Plain m) x = source_message plan s a m x
source_packet_step plan s a (SnapFor i try snap) x = record { after = x; sends = [] }

abbrev pub source_beat : Option (Sess × ℕ) → Message
source_beat tally = message.Beat (record { inc = 1; state = Stable; recovering = false; over = 0; tally = tally })

-- at a tick a source tells each reader its session
unfoldable pub source_tick_step : Plan → ℕ → ℕ → SourceState → Stepped SourceState
source_tick_step plan s now x =
    record { after = record x { clock = now }; sends = map (λ (y : ℕ × Sub). mail y.0 (source_beat (tally_of y.1))) (zip (source_readers plan s) x.subs) }
