-- No source's bound passes the end, and one that released its whole log has the end as its bound.
use Rattle.std.proofs.Common.{◌≡◌, ℕ, ◌<◌, ◌≤◌, max, true, false, cond, ◌==◌, nat_lt, nat_le, List, [], ◌∷◌, ◌++◌, length, refl, sym, ap, ◌∙◌, arith, ◌⊎◌, inl, inr}
use Rattle.std.proofs.Math.Nat.{le-max_left, le-max_right, max-le}
use Rattle.dpc_lists.specs.Lists.{list_any, nth, changed}
use Rattle.dpc_model.specs.Actors.{role_of}
use Rattle.dpc_model.specs.declared.actors.Role.{Role}
use Rattle.dpc_model.specs.declared.actors.Role.TheVariants.{Source as IsSource, Node as IsNode, Client as IsClient, Nobody}
use Rattle.dpc_model.specs.declared.messages.Event.{Event}
use Rattle.dpc_model.specs.declared.messages.Event.TheVariants.{Release}
use Rattle.dpc_model.specs.declared.plans.Plan.{Plan}
use Rattle.dpc_model.specs.declared.scripts.Directive.{Directive}
use Rattle.dpc_model.specs.declared.scripts.Directive.TheVariants as directive
use Rattle.dpc_model.proofs.Numbers.{source-role}
use Rattle.node_model.specs.Mails.{Stepped}
use Rattle.node_model.specs.Sources.{SourceState, source_emits, source_releases, source_packet_step, source_tick_step}
use Rattle.world_model.specs.Worlds.{World, source_at, no_source, source_stepped, is_release_time, releases, happens}
use Rattle.dpc_lists.proofs.Truths.{both, both-of, eq-of, lt-of, not-lt, le-of, le-test}
use Rattle.dpc_lists.proofs.Elements.{nth-here}
use Rattle.world_model.specs.Events.{is_release}
use Rattle.law_safety.proofs.EventCases.{AreCases, by-event}
use Rattle.law_safety.proofs.Numbering.{source-at as source-number}
use Rattle.law_granting.proofs.Keys.{nth-changed}
use Rattle.law_settling.proofs.Logs.{packet-same, tick-same}
use Rattle.law_healing.specs.Healing.{releases_all}
use Rattle.law_healing.proofs.Behind.{any-push}

-- what is known of the sources of a plan in a world
pub record AreReleasedBehind (plan : Plan) (done : List Directive) (w : World) : Type 0 where
  pub low : (s : ℕ) → (source_at w s).bound ≤ plan.end
  pub whole : (s : ℕ) → s < length plan.sources → list_any (releases_all plan s) done ≡ true → plan.end ≤ (source_at w s).bound

-- ---- events that release nothing

emits-bound : (plan : Plan) (s t : ℕ) (x : SourceState) → (source_emits plan s t x).after.bound ≡ x.bound
unfolding source_emits
emits-bound plan s t x = refl

releases-bound : (plan : Plan) (s t : ℕ) (x : SourceState) → (source_releases plan s t x).after.bound ≡ max x.bound t
unfolding source_releases
releases-bound plan s t x = refl

stepped-bound : (w : World) (a v s : ℕ) (t : Stepped SourceState) → role_of w.plan a ≡ IsSource v → t.after.bound ≡ (source_at w v).bound →
    (nth no_source (changed a (λ _. t.after) w.sources) s).bound ≡ (source_at w s).bound
stepped-bound w a v s t role same =
    elim (nth-changed no_source a (λ (_ : SourceState). t.after) w.sources s) [
      | inl still ↦ ap (λ (x : SourceState). x.bound) still
      | inr here ↦
          let mine : v ≡ s = source-number w.plan a v role ∙ sym here.0 in
          ap (λ (x : SourceState). x.bound) here.1 ∙ same ∙ ap (λ (z : ℕ). (source_at w z).bound) mine
    ]

bound-cases : (w : World) → AreCases w (λ e next. is_release e ≡ false → (s : ℕ) → (source_at next s).bound ≡ (source_at w s).bound)
bound-cases w =
    record {
      still = λ e q s. refl;
      wires = λ e cuts q s. refl;
      emitted = λ a v t role q s. stepped-bound w a v s (source_emits w.plan v t (source_at w v)) role (emits-bound w.plan v t (source_at w v));
      released = λ a v t role q s. cc;
      source_took = λ k v e there can role q s. stepped-bound w e.to v s (source_packet_step w.plan v e.sender e.packet (source_at w v)) role (packet-same w.plan v e.sender e.packet (source_at w v)).bound;
      source_ticks = λ a v now role q s. stepped-bound w a v s (source_tick_step w.plan v now (source_at w v)) role (tick-same w.plan v now (source_at w v)).bound;
      crashed = λ a f r role q s. refl;
      restarted = λ a i f r role q s. refl;
      node_took = λ k f r e n there can role up q s. refl;
      node_ticked = λ a now f r n role up clock q s. refl;
      node_milled = λ a r f v n role up can q s. refl;
      client_took = λ k c e there can role q s. refl;
      client_ticks = λ a c now role q s. refl;
    }

pub same-bound : (w : World) (e : Event) → is_release e ≡ false → (s : ℕ) → (source_at (happens w e) s).bound ≡ (source_at w s).bound
same-bound w e q = by-event w (λ e next. is_release e ≡ false → (s : ℕ) → (source_at next s).bound ≡ (source_at w s).bound) (bound-cases w) e q

pub logs-kept : (plan : Plan) (done : List Directive) (w next : World) → ((s : ℕ) → (source_at next s).bound ≡ (source_at w s).bound) → AreReleasedBehind plan done w → AreReleasedBehind plan done next
logs-kept plan done w next same h =
    record {
      low = λ s. let low = h.low s in let is = same s in omega (arith, low, is);
      whole = λ s below all. let whole = h.whole s below all in let is = same s in omega (arith, whole, is);
    }

-- ---- one directive more

pub logs-idle : (plan : Plan) (done : List Directive) (d : Directive) (w : World) → ((s : ℕ) → s < length plan.sources → releases_all plan s d ≡ true → plan.end ≤ (source_at w s).bound) → AreReleasedBehind plan done w →
    AreReleasedBehind plan (done ++ d ∷ []) w
logs-idle plan done d w idle h =
    record {
      low = h.low;
      whole = λ s below all. elim (any-push (releases_all plan s) done d all) [ inl old ↦ h.whole s below old | inr new ↦ idle s below new ];
    }

-- the source and the time of a whole release
release-parts : (plan : Plan) (s a t : ℕ) → releases_all plan s (directive.Release a t) ≡ true → (a ≡ s) × (t ≡ plan.end)
release-parts plan s a t h = let p = both (a == s) (t == plan.end) h in (eq-of a s p.0, eq-of t plan.end p.1)

-- who is no source releases nothing
not-source : (plan : Plan) (done : List Directive) (w : World) (a t : ℕ) → ((s : ℕ) → role_of plan a ≡ IsSource s → ⊥) → AreReleasedBehind plan done w → AreReleasedBehind plan (done ++ directive.Release a t ∷ []) w
not-source plan done w a t none h =
    logs-idle plan done (directive.Release a t) w
    (λ s below all. absurd (none s (ap (λ (b : ℕ). role_of plan b) (release-parts plan s a t all).0 ∙ source-role plan s below))) h

-- a time that is none of a release is not the end, unless that is 0
void-time : (plan : Plan) (t : ℕ) → is_release_time plan t ≡ false → t ≡ plan.end → plan.end ≡ 0
void-time plan t void same =
    (elim (nat_lt 0 t) as (λ b. nat_lt 0 t ≡ b → plan.end ≡ 0) [
      | true ↦ λ e.
          let more = lt-of 0 t e in
          let may : is_release_time plan t ≡ true = both-of (nat_le 1 t) (nat_le t plan.end) (le-test 1 t (omega (arith, more))) (le-test t plan.end (omega (arith, same))) in
          let clash : true ≡ false = sym may ∙ void in
          cc
      | false ↦ λ e. let few = not-lt 0 t e in omega (arith, few, same)
    ]) refl

-- a source's bound stays, or is the greater one of it and the time of the release
abbrev BoundGoes : World → World → ℕ → ℕ → Type 0
BoundGoes w next t s = ((source_at next s).bound ≡ (source_at w s).bound) ⊎ ((source_at next s).bound ≡ max (source_at w s).bound t)

released : (done : List Directive) (w : World) (a t v : ℕ) → role_of w.plan a ≡ IsSource v → length w.sources ≡ length w.plan.sources → is_release_time w.plan t ≡ true → AreReleasedBehind w.plan done w →
    AreReleasedBehind w.plan (done ++ directive.Release a t ∷ []) (source_stepped a (source_releases w.plan v t (source_at w v)) w)
released done w a t v role many time h =
    record {
      low = λ s. low-at s (bounds s);
      whole = λ s below all. elim (any-push (releases_all w.plan s) done (directive.Release a t) all) [
        | inl old ↦ whole-at s (bounds s) (h.whole s below old)
        | inr new ↦ let parts = release-parts w.plan s a t new in now-at s below parts.0 parts.1
      ];
    }
  where
    next : World
    next = source_stepped a (source_releases w.plan v t (source_at w v)) w

    after : SourceState
    after = (source_releases w.plan v t (source_at w v)).after

    mine : v ≡ a
    mine = source-number w.plan a v role

    after-bound : after.bound ≡ max (source_at w v).bound t
    after-bound = releases-bound w.plan v t (source_at w v)

    bounds : (s : ℕ) → BoundGoes w next t s
    bounds s = elim (nth-changed no_source a (λ (_ : SourceState). after) w.sources s) [
      | inl still ↦ inl (ap (λ (x : SourceState). x.bound) still)
      | inr here ↦ inr (ap (λ (x : SourceState). x.bound) here.1 ∙ after-bound ∙ ap (λ (z : ℕ). max (source_at w z).bound t) (mine ∙ sym here.0))
    ]

    low-at : (s : ℕ) → BoundGoes w next t s → (source_at next s).bound ≤ w.plan.end
    low-at s (inl same) = let low = h.low s in omega (arith, low, same)
    low-at s (inr new) = let few = max-le (h.low s) (le-of t w.plan.end (both (nat_le 1 t) (nat_le t w.plan.end) time).1) in omega (arith, few, new)

    whole-at : (s : ℕ) → BoundGoes w next t s → w.plan.end ≤ (source_at w s).bound → w.plan.end ≤ (source_at next s).bound
    whole-at s (inl same) whole = omega (arith, whole, same)
    whole-at s (inr new) whole = let more = le-max_left (source_at w s).bound t in omega (arith, whole, new, more)

    now-at : (s : ℕ) → s < length w.plan.sources → a ≡ s → t ≡ w.plan.end → w.plan.end ≤ (source_at next s).bound
    now-at s below is ended =
        let here : source_at next a ≡ after = nth-here no_source a (λ (_ : SourceState). after) w.sources (omega (arith, below, is, many)) in
        let bound : (source_at next s).bound ≡ max (source_at w v).bound t = ap (λ (z : ℕ). (source_at next z).bound) (sym is) ∙ ap (λ (x : SourceState). x.bound) here ∙ after-bound in
        let more = le-max_right (source_at w v).bound t in
        omega (arith, bound, more, ended)

pub logs-release : (done : List Directive) (w : World) (a t : ℕ) (role : Role) → role_of w.plan a ≡ role → length w.sources ≡ length w.plan.sources → AreReleasedBehind w.plan done w →
    AreReleasedBehind w.plan (done ++ directive.Release a t ∷ []) (releases w a t role)
logs-release done w a t (IsNode f r) role many h = not-source w.plan done w a t (λ s is. let clash : IsNode f r ≡ IsSource s = sym role ∙ is in cc) h
logs-release done w a t (IsClient c) role many h = not-source w.plan done w a t (λ s is. let clash : IsClient c ≡ IsSource s = sym role ∙ is in cc) h
logs-release done w a t Nobody role many h = not-source w.plan done w a t (λ s is. let clash : Nobody ≡ IsSource s = sym role ∙ is in cc) h
logs-release done w a t (IsSource v) role many h =
    (elim (is_release_time w.plan t) as (λ b. is_release_time w.plan t ≡ b → AreReleasedBehind w.plan (done ++ directive.Release a t ∷ []) (cond b (source_stepped a (source_releases w.plan v t (source_at w v)) w) w)) [
      | true ↦ λ time. released done w a t v role many time h
      | false ↦ λ void.
          logs-idle w.plan done (directive.Release a t) w (λ s below all.
          let none = void-time w.plan t void (release-parts w.plan s a t all).1 in omega (arith, none)) h
    ]) refl
