-- What opened a session was sent by its reader.
use Rattle.std.proofs.Common.{◌≡◌, ℕ, true, false, cond, List, [], ◌∷◌, length, drop, refl, ap, ◌∙◌, Some, None, slice_get, unwrap_or, ◌⊎◌, inl, inr}
use Rattle.dpc_model.specs.declared.messages.Event.{Event}
use Rattle.dpc_model.specs.declared.messages.Event.TheVariants.{Phase, Emit, Release, Cut, Heal, Crash, Restart, Deliver, Tick, Mill}
use Rattle.dpc_model.specs.declared.messages.Subscribe.{Subscribe}
use Rattle.dpc_model.specs.declared.plans.Plan.{Plan}
use Rattle.world_model.specs.Worlds.{World, Envelope, happens, new_world, run, run_from}
use Rattle.world_model.specs.SessionLaw.{Channel}
use Rattle.law_sessions.specs.Openings.{first_subscription, asks_for, brings, has_first, asked_next, opened_by}
use Rattle.law_sessions.specs.Laws.{WasAsked}
use Rattle.dpc_lists.proofs.Elements.{get-first}
use Rattle.law_safety.proofs.Growing.{Grows, event-grows}

-- ---- who asked

-- an envelope of a world asks for the session by this subscription
abbrev pub IsSent : Channel → World → Subscribe → Type 0
IsSent l w asked = (k : ℕ) × (e : Envelope) × (slice_get w.envelopes k ≡ Some e) × (asks_for l e ≡ Some asked)

pub sent-later : (l : Channel) (w next : World) (asked : Subscribe) → Grows w next → IsSent l w asked → IsSent l next asked
sent-later l w next asked g h = (h.0, h.1, ap (λ (es : List Envelope). slice_get es h.0) g.envelopes ∙ get-first w.envelopes g.more h.0 h.1 h.2, h.3)

pub brought : (l : Channel) (w : World) (e : Event) (asked : Subscribe) → brings l w e ≡ Some asked → IsSent l w asked
brought l w (Deliver k) asked h =
    (elim (slice_get w.envelopes k) as (λ o. slice_get w.envelopes k ≡ o → elim o [ None ↦ None | Some e ↦ asks_for l e ] ≡ Some asked → IsSent l w asked) [
      | None ↦ λ f g. cc
      | Some e ↦ λ f g. (k, e, f, g)
    ]) refl h
brought l w (Phase p) asked h = cc
brought l w (Emit s t) asked h = cc
brought l w (Release s t) asked h = cc
brought l w (Cut a b) asked h = cc
brought l w (Heal a b) asked h = cc
brought l w (Crash a) asked h = cc
brought l w (Restart a i) asked h = cc
brought l w (Tick a now) asked h = cc
brought l w (Mill a r) asked h = cc

abbrev IsAsked : Channel → World → Subscribe → Type 0
IsAsked l w asked = (asked ≡ first_subscription l) ⊎ IsSent l w asked

asked-later : (l : Channel) (w next : World) (asked : Subscribe) → Grows w next → IsAsked l w asked → IsAsked l next asked
asked-later l w next asked g (inl h) = inl h
asked-later l w next asked g (inr h) = inr (sent-later l w next asked g h)

event-asked : (l : Channel) (w : World) (e : Event) (asked : Subscribe) → IsAsked l w asked → IsAsked l w (asked_next l asked w e)
event-asked l w e asked h =
    elim (has_first l (drop (length w.envelopes) (happens w e).envelopes)) as (λ b. IsAsked l w (cond b (unwrap_or (brings l w e) asked) asked)) [
      | false ↦ h
      | true ↦ (elim (brings l w e) as (λ o. brings l w e ≡ o → IsAsked l w (unwrap_or o asked)) [
        | None ↦ λ f. h
        | Some x ↦ λ f. inr (brought l w e x f)
      ]) refl
    ]

run-asked : (l : Channel) (w : World) (events : List Event) (asked : Subscribe) → IsAsked l w asked → IsAsked l (run_from w events) (opened_by l asked w events)
run-asked l w [] asked h = h
run-asked l w (e ∷ events) asked h = run-asked l (happens w e) events (asked_next l asked w e) (asked-later l w (happens w e) (asked_next l asked w e) (event-grows w e) (event-asked l w e asked h))

pub was-asked : (plan : Plan) (events : List Event) (l : Channel) → WasAsked plan events l
unfolding run
was-asked plan events l = run-asked l (new_world plan) events (first_subscription l) (inl refl)
