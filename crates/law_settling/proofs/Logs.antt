-- What a source emitted and released stays in quiet phases, and a run has the plan's sources.
use Rattle.std.proofs.Common.{◌≡◌, ◌==◌, ℕ, true, List, length, refl, sym, ap, subst, ◌∙◌, Option, Some, None, inl, inr}
use Rattle.std.proofs.lemmas.List.FromFn.{length-map-range_with_len}
use Rattle.dpc_lists.specs.Lists.{nth, changed, place_of}
use Rattle.dpc_model.specs.Actors.{role_of}
use Rattle.dpc_model.specs.declared.actors.Role.TheVariants.{Source as IsSource}
use Rattle.dpc_model.specs.declared.messages.Event.{Event}
use Rattle.dpc_model.specs.declared.messages.Subscribe.{Subscribe}
use Rattle.dpc_model.specs.declared.messages.Message.TheVariants as message
use Rattle.dpc_model.specs.declared.plans.Plan.{Plan}
use Rattle.node_model.specs.Mails.{Packet, Plain, SnapFor, Stepped}
use Rattle.node_model.specs.Sources.{SourceState, source_readers, source_subscribed, source_packet_step, source_tick_step, new_source}
use Rattle.world_model.specs.Worlds.{World, source_at, no_source, happens, run}
use Rattle.law_safety.proofs.EventCases.{AreCases, by-event}
use Rattle.law_safety.proofs.Numbering.{source-at as source-number}
use Rattle.law_sessions.proofs.Worlds.{same-many}
use Rattle.law_granting.proofs.Keys.{nth-changed}
use Rattle.law_granting.proofs.First.{new-sources}
use Rattle.law_readers.proofs.Running.{every-run}
use Rattle.world_model.specs.Events.{is_quiet}

pub record IsSameLog (y z : SourceState) : Type 0 where
  pub emitted : z.emitted ≡ y.emitted
  pub bound : z.bound ≡ y.bound

subscribed-same : (plan : Plan) (s : ℕ) (asked : Subscribe) (o : Option ℕ) (y : SourceState) → IsSameLog y (source_subscribed plan s asked o y).after
subscribed-same plan s asked None y = record { emitted = refl; bound = refl }
subscribed-same plan s asked (Some k) y = record { emitted = refl; bound = refl }

pub packet-same : (plan : Plan) (s a : ℕ) (packet : Packet) (y : SourceState) → IsSameLog y (source_packet_step plan s a packet y).after
unfolding source_packet_step
packet-same plan s a (Plain (message.Subscribe asked)) y = subscribed-same plan s asked (place_of (λ b. a == b) (source_readers plan s)) y
packet-same plan s a (Plain (message.Batch u index items)) y = record { emitted = refl; bound = refl }
packet-same plan s a (Plain (message.Truncated u base)) y = record { emitted = refl; bound = refl }
packet-same plan s a (Plain (message.Beat b)) y = record { emitted = refl; bound = refl }
packet-same plan s a (Plain (message.Ack i n)) y = record { emitted = refl; bound = refl }
packet-same plan s a (Plain (message.Ask i n)) y = record { emitted = refl; bound = refl }
packet-same plan s a (Plain (message.Grant i n)) y = record { emitted = refl; bound = refl }
packet-same plan s a (Plain (message.SnapAsk i n)) y = record { emitted = refl; bound = refl }
packet-same plan s a (SnapFor i try snap) y = record { emitted = refl; bound = refl }

pub tick-same : (plan : Plan) (s now : ℕ) (y : SourceState) → IsSameLog y (source_tick_step plan s now y).after
unfolding source_tick_step
tick-same plan s now y = record { emitted = refl; bound = refl }

-- ---- an event

stepped-log : (w : World) (a v s : ℕ) (t : Stepped SourceState) → role_of w.plan a ≡ IsSource v → IsSameLog (source_at w v) t.after → IsSameLog (source_at w s) (nth no_source (changed a (λ _. t.after) w.sources) s)
stepped-log w a v s t role same =
    elim (nth-changed no_source a (λ (_ : SourceState). t.after) w.sources s) [
      | inl still ↦ subst (IsSameLog (source_at w s)) (sym still) (record { emitted = refl; bound = refl })
      | inr here ↦
          let mine : v ≡ s = source-number w.plan a v role ∙ sym here.0 in
          subst (IsSameLog (source_at w s)) (sym here.1) (subst (λ (z : ℕ). IsSameLog (source_at w z) t.after) mine same)
    ]

log-cases : (w : World) → AreCases w (λ e next. is_quiet e ≡ true → (s : ℕ) → IsSameLog (source_at w s) (source_at next s))
log-cases w =
    record {
      still = λ e q s. record { emitted = refl; bound = refl };
      wires = λ e cuts q s. record { emitted = refl; bound = refl };
      emitted = λ a v t role q s. cc;
      released = λ a v t role q s. cc;
      source_took = λ k v e there can role q s. stepped-log w e.to v s (source_packet_step w.plan v e.sender e.packet (source_at w v)) role (packet-same w.plan v e.sender e.packet (source_at w v));
      source_ticks = λ a v now role q s. stepped-log w a v s (source_tick_step w.plan v now (source_at w v)) role (tick-same w.plan v now (source_at w v));
      crashed = λ a f r role q s. record { emitted = refl; bound = refl };
      restarted = λ a i f r role q s. record { emitted = refl; bound = refl };
      node_took = λ k f r e n there can role up q s. record { emitted = refl; bound = refl };
      node_ticked = λ a now f r n role up clock q s. record { emitted = refl; bound = refl };
      node_milled = λ a r f v n role up can q s. record { emitted = refl; bound = refl };
      client_took = λ k c e there can role q s. record { emitted = refl; bound = refl };
      client_ticks = λ a c now role q s. record { emitted = refl; bound = refl };
    }

pub quiet-log : (w : World) (e : Event) → is_quiet e ≡ true → (s : ℕ) → IsSameLog (source_at w s) (source_at (happens w e) s)
quiet-log w e q s = by-event w (λ e next. is_quiet e ≡ true → (s : ℕ) → IsSameLog (source_at w s) (source_at next s)) (log-cases w) e q s

-- ---- as many sources as the plan has

pub event-many : (w : World) (e : Event) → length (happens w e).sources ≡ length w.sources
event-many w e = by-event w (λ e next. length next.sources ≡ length w.sources) (same-many w) e

pub run-sources : (plan : Plan) (events : List Event) → length (run plan events).sources ≡ length plan.sources
run-sources plan events =
    every-run plan (λ w. length w.sources ≡ length plan.sources) (ap length (new-sources plan) ∙ length-map-range_with_len (new_source plan) 0 (length plan.sources)) (λ before e h. event-many (run plan before) e ∙ h) events
