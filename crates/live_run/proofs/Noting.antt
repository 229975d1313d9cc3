-- What a call leaves of the course stands for what the definition makes of the progress.
use Rattle.std.proofs.Common.{◌≡◌, ℕ, ◌<◌, true, false, cond, ◌&&◌, ◌==◌, nat_lt, List, [], ◌++◌, length, refl, sym, subst, ap, ◌∙◌, Option, Some, None, slice_get}
use Rattle.std.specs.Prelude.{option_map}
use Rattle.dpc_model.specs.Actors.{roles_of}
use Rattle.dpc_model.specs.declared.actors.Role.{Role}
use Rattle.dpc_model.specs.declared.messages.Event.{Event}
use Rattle.dpc_model.specs.declared.messages.Event.TheVariants.{Phase, Emit, Release, Cut, Heal, Crash, Restart, Deliver, Tick, Mill}
use Rattle.dpc_model.specs.declared.plans.Plan.{Plan}
use Rattle.dpc_model.specs.declared.scripts.Script.{Script}
use Rattle.world_model.specs.Worlds.{World, Envelope, happens, is_up, role_up, new_world}
use Rattle.world_model.specs.Schedules.{Progress, first_progress, noting, next_progress, newly_sent, directives_done, targets_in, targets_left, may_come}
use Rattle.dpc_lists.proofs.Truths.{lt-of, not-lt, true-not-false}
use Rattle.law_schedules.proofs.Calm.{IsGrown, happens-grown}
use Rattle.law_schedules.proofs.Waits.{get-grown}
use Rattle.law_safety.proofs.Law.{new_world-plan}
use Rattle.live_parts.specs.declared.inbox.Awaited.{Awaited}
use Rattle.live_parts.specs.declared.moment.Moment.{Moment}
use Rattle.live_parts.specs.Moments.{StandsForMoment}
use Rattle.live_parts.specs.Inboxes.{StandsForWaiting}
use Rattle.live_run.specs.Goals.{StandsForTargets}
use Rattle.live_run.specs.Courses.{Stands}
use Rattle.live_run.specs.declared.course.Course.{Course}
use Rattle.live_run.proofs.Reaching.{get-low, past-all}

-- ---- one event

pub noting_world : (script : Script) (x : Progress) (e : Event) → (noting script x e).world ≡ x.world
noting_world script x (Phase p) = refl
noting_world script x (Deliver k) = refl
noting_world script x (Tick a now) = refl
noting_world script x (Mill a r) = refl
noting_world script x (Emit s t) = refl
noting_world script x (Release s t) = refl
noting_world script x (Cut a b) = refl
noting_world script x (Heal a b) = refl
noting_world script x (Crash a) = refl
noting_world script x (Restart a i) = refl

pub noting_grown : (script : Script) (x : Progress) (e : Event) (v : World) → v ≡ happens x.world e → IsGrown (noting script x e).world v
noting_grown script x e v same = subst (λ (u : World). IsGrown u v) (sym (noting_world script x e)) (subst (λ (u : World). IsGrown x.world u) (sym same) (happens-grown x.world e))

pub next_stands :
    (script : Script) (p : Progress) (e : Event) (v : World) (c : Course) → v ≡ happens p.world e → StandsForMoment c.moment (noting script p e) →
    StandsForWaiting c.inboxes v ((noting script p e).waiting ++ newly_sent (noting script p e).world v) →
    StandsForTargets c.goals (cond (directives_done p (noting script p e) && (noting script p e).phase == p.phase) (targets_in v) (targets_left v (noting script p e).targets)) →
    length c.moment.ticked.items ≡ length (roles_of (noting script p e).world.plan) → length c.goals ≡ length (roles_of (noting script p e).world.plan) → Stands c (next_progress script p e)
next_stands script p e v c same m w t a n =
    let here = noting_world script p e in
    let roles : length (roles_of (noting script p e).world.plan) ≡ length (roles_of (happens p.world e).plan) =
    ap (λ (u : World). length (roles_of u.plan)) here ∙ ap (λ (q : Plan). length (roles_of q)) (sym (happens-grown p.world e).plan) in
    record {
      moment = record { phase = m.phase; todo = m.todo; within = m.within; ticked = m.ticked };
      waiting = subst (λ (u : World). StandsForWaiting c.inboxes u ((noting script p e).waiting ++ newly_sent p.world u)) same
          (subst (λ (u : World). StandsForWaiting c.inboxes v ((noting script p e).waiting ++ newly_sent u v)) here w);
      targets = subst (λ (u : World). StandsForTargets c.goals (cond (directives_done p (noting script p e) && (noting script p e).phase == p.phase) (targets_in u) (targets_left u (noting script p e).targets))) same t;
      actors = a ∙ roles;
      nodes = n ∙ roles;
    }

-- ---- before the first one

pub first_stands : (script : Script) (plan : Plan) (m : Moment) (boxes : List (List Awaited)) (goals : List ℕ) (n : ℕ) → script.plan ≡ plan → n ≡ length (roles_of plan) → StandsForMoment m (first_progress script) →
    ((w : World) → StandsForWaiting boxes w []) → StandsForTargets goals [] → length m.ticked.items ≡ n → length goals ≡ n → Stands (record { moment = m; inboxes = boxes; goals = goals }) (first_progress script)
first_stands script plan m boxes goals n same many moment waiting targets ticked given =
    let roles : n ≡ length (roles_of (new_world script.plan).plan) = many ∙ ap (λ (q : Plan). length (roles_of q)) (sym (new_world-plan script.plan ∙ same)) in
    record { moment = moment; waiting = waiting (new_world script.plan); targets = targets; actors = ticked ∙ roles; nodes = given ∙ roles }

-- ---- actors and envelopes

pub up_low : (w : World) (a : ℕ) → is_up w a ≡ true → a < length (roles_of w.plan)
up_low w a h =
    (elim (nat_lt a (length (roles_of w.plan))) as (λ b. nat_lt a (length (roles_of w.plan)) ≡ b → a < length (roles_of w.plan)) [
      | true ↦ λ e. lt-of a (length (roles_of w.plan)) e
      | false ↦ λ e. absurd (true-not-false (sym h ∙ ap (λ (r : Role). role_up w a r) (past-all (roles_of w.plan) a (not-lt a (length (roles_of w.plan)) e))))
    ]) refl

pub record IsSent (w : World) (k : ℕ) : Type 0 where
  pub envelope : Envelope
  pub there : slice_get w.envelopes k ≡ Some envelope

pub sent_there : (w : World) (k : ℕ) → may_come w (slice_get w.envelopes k) ≡ true → IsSent w k
sent_there w k h = by-envelope (slice_get w.envelopes k) refl h
  where
    by-envelope : (o : Option Envelope) → slice_get w.envelopes k ≡ o → may_come w o ≡ true → IsSent w k
    by-envelope None e g = absurd (true-not-false (sym g))
    by-envelope (Some d) e g = record { envelope = d; there = e }

abbrev pub ends : Option Envelope → Option (ℕ × ℕ)
ends o = option_map (λ (e : Envelope). (e.sender, e.to)) o

-- its ends, told of a world that has grown
pub ends_sent : (w v : World) (k : ℕ) (d : Envelope) → IsGrown w v → slice_get w.envelopes k ≡ Some d → ◌≡◌ {A = Option (ℕ × ℕ)} (ends (slice_get v.envelopes k)) (Some (d.sender, d.to))
ends_sent w v k d c h =
    ap (λ (es : List Envelope). ends (slice_get es k)) c.sent ∙ ap ends (get-grown w.envelopes c.more k (get-low w.envelopes k d h) ∙ h)

pub ends_same : (d : Envelope) (s t : ℕ) → ◌≡◌ {A = Option (ℕ × ℕ)} (Some (s, t)) (Some (d.sender, d.to)) → (d.sender ≡ s) × (d.to ≡ t)
ends_same d s t h = let same : ◌≡◌ {A = ℕ × ℕ} (s, t) (d.sender, d.to) = cc in (ap (λ (p : ℕ × ℕ). p.0) (sym same), ap (λ (p : ℕ × ℕ). p.1) (sym same))
