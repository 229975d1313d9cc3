-- A source's session, but the first one, was opened by a subscription that its reader sent to it.
use Rattle.std.proofs.Common.{◌≡◌, ℕ, ◌<◌, Bool, true, false, ◌&&◌, ◌==◌, List, [], ◌∷◌, map, length, refl, sym, ap, subst, ◌∙◌, ◌⊎◌, inl, inr}
use Rattle.dpc_lists.specs.Lists.{nth, list_any}
use Rattle.dpc_model.specs.Actors.{role_of}
use Rattle.dpc_model.specs.declared.actors.Role.TheVariants.{Source as IsSource}
use Rattle.dpc_model.specs.Sessions.{no_session}
use Rattle.dpc_model.specs.declared.messages.Event.{Event}
use Rattle.dpc_model.specs.declared.messages.Event.TheVariants.{Emit, Release, Deliver, Tick}
use Rattle.dpc_model.specs.declared.messages.Sess.{Sess}
use Rattle.dpc_model.specs.declared.messages.Subscribe.{Subscribe}
use Rattle.dpc_model.specs.declared.plans.Plan.{Plan}
use Rattle.node_model.specs.Mails.{Stepped}
use Rattle.node_model.specs.Sources.{SourceState, source_readers, source_emits, source_releases, source_packet_step, source_tick_step}
use Rattle.world_model.specs.Worlds.{World, source_at, no_source, from, source_stepped, happens, run_from}
use Rattle.world_model.specs.SessionLaw.{Channel}
use Rattle.dpc_lists.proofs.Truths.{both, both-of, eq-test}
use Rattle.law_safety.proofs.EventCases.{AreCases, by-event}
use Rattle.law_safety.proofs.Growing.{event-grows}
use Rattle.law_safety.proofs.Numbering.{source-at as source-number}
use Rattle.law_sessions.specs.Openings.{asked_next, opened_by}
use Rattle.law_granting.specs.Taken.{subscribes_packet}
use Rattle.law_granting.proofs.Keys.{nth-changed}
use Rattle.law_granting.proofs.Sending.{indexes, is_zero, NotOpen}
use Rattle.law_granting.proofs.Sourced.{SourceSends, delivered-on, ticked-on, emits-on, releases-on}
use Rattle.law_session_origins.specs.Asking.{IsSentFor}
use Rattle.law_session_origins.proofs.Firsts.{Brings, delivery-brings, sent-next, sent-now}
use Rattle.law_session_origins.proofs.Opened.{OpensNow, opens-by}

-- ---- a source in a world

-- a source's reader, by its place
pub record IsSourceLine (plan : Plan) (a x u k : ℕ) : Type 0 where
  pub role : role_of plan a ≡ IsSource u
  pub reader : nth 0 (source_readers plan u) k ≡ x
  pub low : k < length (source_readers plan u)

-- it has one sub for each reader, and the session is not open
pub record IsShut (w : World) (u k : ℕ) (s : Sess) : Type 0 where
  pub few : length (source_at w u).subs ≡ length (source_readers w.plan u)
  pub none : NotOpen s (nth no_session (source_at w u).subs k)

module _ (w : World) (a x u k : ℕ) (s : Sess) (line : IsSourceLine w.plan a x u k) (h : IsShut w u k s) where
  abbrev at : Channel
  at = record { sender = a; reader = x; sess = s }

  abbrev Goes : Event → World → Type 0
  Goes e next = OpensNow at w e next ⊎ IsShut next u k s

  still : (e : Event) (next : World) → next.plan ≡ w.plan → source_at next u ≡ source_at w u → Goes e next
  still e next plan same =
      inr (record {
        few = ap (λ (z : SourceState). length z.subs) same ∙ h.few ∙ ap (λ (p : Plan). length (source_readers p u)) (sym plan);
        none = subst (λ (z : SourceState). NotOpen s (nth no_session z.subs k)) (sym same) h.none;
      })

  own-step : (e : Event) (t : Stepped SourceState) (opens : Bool) → SourceSends (source_readers w.plan u) a k s opens (source_at w u) t → (opens ≡ true → Brings at w e) → source_at (source_stepped a t w) u ≡ t.after → Goes e (source_stepped a t w)
  own-step e t opens sends told here =
      elim (sends.on.fresh h.none) [
        | inr closed ↦ inr (record {
          few = ap (λ (z : SourceState). length z.subs) here ∙ sends.many;
          none = subst (λ (z : SourceState). NotOpen s (nth no_session z.subs k)) (sym here) closed;
        })
        | inl first ↦ inl (opens-by at w e a t.sends (source_stepped a t w) refl (subst (λ (z : ℕ). list_any is_zero (indexes (record { sender = a; reader = z; sess = s }) (map (from a) t.sends)) ≡ true) line.reader first) (told (it-opens opens refl first)))
      ]
    where
      it-opens : (b : Bool) → opens ≡ b → list_any is_zero (indexes (record { sender = a; reader = nth 0 (source_readers w.plan u) k; sess = s }) (map (from a) t.sends)) ≡ true → opens ≡ true
      it-opens true e first = e
      it-opens false e first =
          let nothing = (sends.on.quiet e h.none).0 in
          let clash : false ≡ true = sym (ap (λ (zs : List ℕ). list_any is_zero zs) nothing) ∙ first in cc

  any-step : (e : Event) (y v : ℕ) (t : Stepped SourceState) (opens : Bool) → role_of w.plan y ≡ IsSource v → (a ≡ y → SourceSends (source_readers w.plan u) a k s opens (source_at w u) t) → (a ≡ y → opens ≡ true → Brings at w e) → Goes e (source_stepped y t w)
  any-step e y v t opens role sends told =
      elim (nth-changed no_source y (λ (_ : SourceState). t.after) w.sources u) [
        | inl same ↦ still e (source_stepped y t w) refl same
        | inr it ↦
            let mine : a ≡ y = sym (source-number w.plan a u line.role) ∙ it.0 in
            subst (λ (z : ℕ). source_at (source_stepped z t w) u ≡ t.after → Goes e (source_stepped z t w)) mine (own-step e t opens (sends mine) (told mine)) it.1
      ]

  number-same : (y v : ℕ) → role_of w.plan y ≡ IsSource v → a ≡ y → u ≡ v
  number-same y v role same = let whole : IsSource u ≡ IsSource v = sym line.role ∙ ap (λ (z : ℕ). role_of w.plan z) same ∙ role in cc

  source-cases : AreCases w Goes
  source-cases =
      record {
        still = λ e. still e w refl refl;
        wires = λ e cuts. still e (record w { cuts = cuts }) refl refl;
        emitted = λ y v t role. any-step (Emit y t) y v (source_emits w.plan v t (source_at w v)) false role
            (λ same. subst (λ (z : ℕ). SourceSends (source_readers w.plan u) a k s false (source_at w u) (source_emits w.plan z t (source_at w z))) (number-same y v role same) (emits-on w.plan u a k s false line.low t (source_at w u) h.few)) (λ same e. cc);
        released = λ y v t role. any-step (Release y t) y v (source_releases w.plan v t (source_at w v)) false role
            (λ same. subst (λ (z : ℕ). SourceSends (source_readers w.plan u) a k s false (source_at w u) (source_releases w.plan z t (source_at w z))) (number-same y v role same) (releases-on w.plan u a k s false line.low t (source_at w u) h.few)) (λ same e. cc);
        source_took = λ j v e there can role.
            let opens = e.sender == x && subscribes_packet s e.packet in
            any-step (Deliver j) e.to v (source_packet_step w.plan v e.sender e.packet (source_at w v)) opens role
            (λ same. subst (λ (z : ℕ). SourceSends (source_readers w.plan u) a k s opens (source_at w u) (source_packet_step w.plan z e.sender e.packet (source_at w z))) (number-same e.to v role same)
            (delivered-on w.plan u a k s opens line.low e.sender e.packet (source_at w u) (λ it packet. both-of (e.sender == x) (subscribes_packet s e.packet) (eq-test e.sender x (it ∙ line.reader)) packet) h.few))
            (λ same o. let p = both (e.sender == x) (subscribes_packet s e.packet) o in delivery-brings at w j e there p.0 (eq-test e.to a (sym same)) p.1);
        source_ticks = λ y v now role. any-step (Tick y now) y v (source_tick_step w.plan v now (source_at w v)) false role
            (λ same. subst (λ (z : ℕ). SourceSends (source_readers w.plan u) a k s false (source_at w u) (source_tick_step w.plan z now (source_at w z))) (number-same y v role same) (ticked-on w.plan u a k s false line.low now (source_at w u) h.few)) (λ same e. cc);
        crashed = λ y p q role. inr (record { few = h.few; none = h.none });
        restarted = λ y j p q role. inr (record { few = h.few; none = h.none });
        node_took = λ j p q e n there can role up. inr (record { few = h.few; none = h.none });
        node_ticked = λ y now p q n role up clock. inr (record { few = h.few; none = h.none });
        node_milled = λ y m p q n role up can. inr (record { few = h.few; none = h.none });
        client_took = λ j c e there can role. inr (record { few = h.few; none = h.none });
        client_ticks = λ y c now role. inr (record { few = h.few; none = h.none });
      }

  pub source-goes : (e : Event) → Goes e (happens w e)
  source-goes e = by-event w Goes source-cases e

pub source-opened : (w : World) (events : List Event) (a x u k : ℕ) (s : Sess) (asked : Subscribe) → IsSourceLine w.plan a x u k → IsSentFor (record { sender = a; reader = x; sess = s }) w.envelopes asked ⊎ IsShut w u k s →
    IsSentFor (record { sender = a; reader = x; sess = s }) (run_from w events).envelopes (opened_by (record { sender = a; reader = x; sess = s }) asked w events) ⊎ IsShut (run_from w events) u k s
source-opened w [] a x u k s asked line h = h
source-opened w (e ∷ events) a x u k s asked line h =
    let l : Channel = record { sender = a; reader = x; sess = s } in
    source-opened (happens w e) events a x u k s (asked_next l asked w e) (subst (λ (p : Plan). IsSourceLine p a x u k) (sym (event-grows w e).plan) line)
    (elim h [
      | inl sent ↦ inl (sent-next l w e asked sent)
      | inr shut ↦ elim (source-goes w a x u k s line shut e) [
        | inl opens ↦ inl (sent-now l w e asked opens.0 opens.1)
        | inr after ↦ inr after
      ]
    ])
