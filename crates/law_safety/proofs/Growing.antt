-- Envelopes stay, and an event leaves the plan, as does a run.
use Rattle.std.proofs.Common.{◌≡◌, List, [], ◌++◌, refl, sym, ◌∙◌, append-nil, ◌∷◌}
use Rattle.dpc_model.specs.declared.messages.Event.{Event}
use Rattle.dpc_model.specs.declared.plans.Plan.{Plan}
use Rattle.world_model.specs.Worlds.{World, Envelope, happens, run_from, new_world, run}
use Rattle.law_safety.proofs.EventCases.{AreCases, by-event}

pub record Grows (w next : World) : Type 0 where
  pub plan : next.plan ≡ w.plan
  pub more : List Envelope
  pub envelopes : next.envelopes ≡ w.envelopes ++ more

grows-same : (w next : World) → next.plan ≡ w.plan → next.envelopes ≡ w.envelopes → Grows w next
grows-same w next plan same = record { plan = plan; more = []; envelopes = same ∙ sym (append-nil w.envelopes) }

grows-cases : (w : World) → AreCases w (λ e next. Grows w next)
grows-cases w =
    record {
      still = λ e. grows-same w w refl refl;
      wires = λ e cuts. grows-same w _ refl refl;
      emitted = λ a s t role. record { plan = refl; more = _; envelopes = refl };
      released = λ a s t role. record { plan = refl; more = _; envelopes = refl };
      source_took = λ k s e there can role. record { plan = refl; more = _; envelopes = refl };
      source_ticks = λ a s now role. record { plan = refl; more = _; envelopes = refl };
      crashed = λ a f r role. grows-same w _ refl refl;
      restarted = λ a i f r role. grows-same w _ refl refl;
      node_took = λ k f r e n there can role up. record { plan = refl; more = _; envelopes = refl };
      node_ticked = λ a now f r n role up clock. record { plan = refl; more = _; envelopes = refl };
      node_milled = λ a r f q n role up can. record { plan = refl; more = _; envelopes = refl };
      client_took = λ k c e there can role. grows-same w _ refl refl;
      client_ticks = λ a c now role. record { plan = refl; more = _; envelopes = refl };
    }

pub event-grows : (w : World) (e : Event) → Grows w (happens w e)
event-grows w e = by-event w (λ e next. Grows w next) (grows-cases w) e

pub run_from-plan : (w : World) (es : List Event) → (run_from w es).plan ≡ w.plan
run_from-plan w [] = refl
run_from-plan w (e ∷ es) = run_from-plan (happens w e) es ∙ (event-grows w e).plan

pub run-plan : (plan : Plan) (es : List Event) → (run plan es).plan ≡ plan
unfolding run new_world
run-plan plan es = run_from-plan (new_world plan) es
