-- Journals that are live so far: their prefixes, their phases, and which of their events are not void.
use Rattle.std.proofs.Common.{◌≡◌, ℕ, ◌+◌, ◌-◌, ◌≤◌, Bool, true, false, not, cond, ◌&&◌, ◌==◌, nat_lt, nat_le, List, [], ◌∷◌, ◌++◌, length, refl, sym, subst, ◌∙◌, arith, Option, Some, None, slice_get, ◌⊎◌, inl, inr}
use Rattle.dpc_lists.specs.Lists.{is_nil}
use Rattle.dpc_model.specs.Actors.{role_of}
use Rattle.dpc_model.specs.declared.actors.Role.{Role}
use Rattle.dpc_model.specs.declared.actors.Role.TheVariants.{Source as IsSource, Node as IsNode, Client as IsClient, Nobody}
use Rattle.dpc_model.specs.declared.messages.Event.{Event}
use Rattle.dpc_model.specs.declared.messages.Event.TheVariants.{Phase, Emit, Release, Cut, Heal, Crash, Restart, Deliver, Tick, Mill}
use Rattle.dpc_model.specs.declared.scripts.Script.{Script}
use Rattle.node_model.specs.Nodes.{PlainNode}
use Rattle.world_model.specs.Worlds.{World, Envelope, home_of, slot_of, run, ready_role, ready_in, all_settled}
use Rattle.world_model.specs.Schedules.{Progress, first_progress, next_progress, progress_from, progress, may, may_follow, follows_from, is_live_so_far, is_live, may_come, may_mill, may_deliver, is_phase_complete, phase_left, quiet_limit}
use Rattle.dpc_lists.proofs.Truths.{both, both-of, eq-of, lt-of, or-of, true-not-false}
use Rattle.world_model.proofs.Running.{follows-part}
use Rattle.law_schedules.specs.Journals.{phases_in, most_phases, Comes, Mills}
use Rattle.law_schedules.proofs.Stages.{follows-append}
use Rattle.law_schedules.proofs.Targets.{none-mills}
use Rattle.law_schedules.proofs.Lockstep.{progress-world}

-- ---- prefixes

pub none-live : (script : Script) → is_live_so_far script [] ≡ true
unfolding is_live_so_far
none-live script = refl

pub prefix-live : (script : Script) (es fs : List Event) → is_live_so_far script (es ++ fs) ≡ true → is_live_so_far script es ≡ true
unfolding is_live_so_far
prefix-live script es fs h = (follows-part script (first_progress script) es fs h).0

pub live-far : (script : Script) (es : List Event) → is_live script es ≡ true → is_live_so_far script es ≡ true
unfolding is_live
live-far script es h = (both (is_live_so_far script es) (is_phase_complete (progress script es)) (both (is_live_so_far script es && is_phase_complete (progress script es)) (not (phase_left script (progress script es))) h).0).0

pub each-may : (script : Script) (es : List Event) (e : Event) (fs : List Event) → is_live_so_far script (es ++ e ∷ fs) ≡ true → may script es e ≡ true
unfolding is_live_so_far may progress
each-may script es e fs h = (both (may_follow script (progress_from script (first_progress script) es) e) _ (follows-part script (first_progress script) es (e ∷ fs) h).1).0

pub one-more : (script : Script) (es : List Event) (e : Event) → is_live_so_far script es ≡ true → may script es e ≡ true → is_live_so_far script (es ++ e ∷ []) ≡ true
unfolding is_live_so_far may progress
one-more script es e h k = follows-append script (first_progress script) es (e ∷ []) h (both-of (may_follow script (progress_from script (first_progress script) es) e) true k refl)

-- ---- the world

pub progress-run : (script : Script) (es : List Event) → (progress script es).world ≡ run script.plan es
unfolding progress run
progress-run script es = progress-world script (first_progress script) es

-- ---- phases

next-phase : (script : Script) (x : Progress) (e : Event) → may_follow script x e ≡ true → (next_progress script x e).phase ≡ x.phase + phases_in (e ∷ [])
next-phase script x (Phase p) h =
    let q = both (p == x.phase + 1 && is_phase_complete x) (phase_left script x) h in
    eq-of p (x.phase + 1) (both (p == x.phase + 1) (is_phase_complete x) q.0).0
next-phase script x (Emit s t) h = omega arith
next-phase script x (Release s t) h = omega arith
next-phase script x (Cut a b) h = omega arith
next-phase script x (Heal a b) h = omega arith
next-phase script x (Crash a) h = omega arith
next-phase script x (Restart a i) h = omega arith
next-phase script x (Deliver k) h = omega arith
next-phase script x (Tick a now) h = omega arith
next-phase script x (Mill a r) h = omega arith

phases-cons : (e : Event) (es : List Event) → phases_in (e ∷ es) ≡ phases_in (e ∷ []) + phases_in es
phases-cons (Phase p) es = omega arith
phases-cons (Emit s t) es = omega arith
phases-cons (Release s t) es = omega arith
phases-cons (Cut a b) es = omega arith
phases-cons (Heal a b) es = omega arith
phases-cons (Crash a) es = omega arith
phases-cons (Restart a i) es = omega arith
phases-cons (Deliver k) es = omega arith
phases-cons (Tick a now) es = omega arith
phases-cons (Mill a r) es = omega arith

phases-from : (script : Script) (x : Progress) (es : List Event) → follows_from script x es ≡ true → (progress_from script x es).phase ≡ x.phase + phases_in es
phases-from script x [] h = omega arith
phases-from script x (e ∷ es) h =
    let p = both (may_follow script x e) (follows_from script (next_progress script x e) es) h in
    let one = next-phase script x e p.0 in
    let rest = phases-from script (next_progress script x e) es p.1 in
    let sum = phases-cons e es in
    omega (arith, one, rest, sum)

pub phases-counted : (script : Script) (es : List Event) → is_live_so_far script es ≡ true → (progress script es).phase ≡ phases_in es
unfolding is_live_so_far progress
phases-counted script es h = let p = phases-from script (first_progress script) es h in omega (arith, p)

left-few : (script : Script) (x : Progress) → phase_left script x ≡ true → x.phase + 1 ≤ most_phases script
left-few script x h = by-settle script.settle refl (or-of (nat_lt x.phase (length script.phases)) _ h)
  where
    by-settle : (s : Bool) → script.settle ≡ s →
        (nat_lt x.phase (length script.phases) ≡ true) ⊎ ((script.settle && not (all_settled x.world) && nat_lt (x.phase - length script.phases) (quiet_limit script.plan)) ≡ true) →
        x.phase + 1 ≤ cond script.settle (length script.phases + quiet_limit script.plan) (length script.phases)
    by-settle true e (inl k) = let less = lt-of x.phase (length script.phases) k in rw e (omega (arith, less))
    by-settle true e (inr k) =
        let less = lt-of (x.phase - length script.phases) (quiet_limit script.plan) (both (script.settle && not (all_settled x.world)) _ k).1 in rw e (omega (arith, less))
    by-settle false e (inl k) = let less = lt-of x.phase (length script.phases) k in rw e (omega (arith, less))
    by-settle false e (inr k) =
        let on = (both script.settle (not (all_settled x.world)) (both (script.settle && not (all_settled x.world)) _ k).0).0 in
        absurd (true-not-false (sym on ∙ e))

phase-few : (script : Script) (x : Progress) (e : Event) → may_follow script x e ≡ true → x.phase ≤ most_phases script → (next_progress script x e).phase ≤ most_phases script
phase-few script x (Phase p) h k =
    let q = both (p == x.phase + 1 && is_phase_complete x) (phase_left script x) h in
    let same = eq-of p (x.phase + 1) (both (p == x.phase + 1) (is_phase_complete x) q.0).0 in
    let few = left-few script x q.1 in
    omega (arith, same, few)
phase-few script x (Emit s t) h k = k
phase-few script x (Release s t) h k = k
phase-few script x (Cut a b) h k = k
phase-few script x (Heal a b) h k = k
phase-few script x (Crash a) h k = k
phase-few script x (Restart a i) h k = k
phase-few script x (Deliver j) h k = k
phase-few script x (Tick a now) h k = k
phase-few script x (Mill a r) h k = k

pub few-from : (script : Script) (x : Progress) (es : List Event) → follows_from script x es ≡ true → x.phase ≤ most_phases script → (progress_from script x es).phase ≤ most_phases script
few-from script x [] h k = k
few-from script x (e ∷ es) h k =
    let p = both (may_follow script x e) (follows_from script (next_progress script x e) es) h in
    few-from script (next_progress script x e) es p.1 (phase-few script x e p.0 k)

pub phases-few : (script : Script) (es : List Event) → is_live_so_far script es ≡ true → phases_in es ≤ most_phases script
unfolding is_live_so_far progress
phases-few script es h =
    let p = phases-from script (first_progress script) es h in
    let few = few-from script (first_progress script) es h (omega arith) in
    omega (arith, p, few)

-- ---- events that are not void

pub delivers-so : (script : Script) (es : List Event) (k : ℕ) → may script es (Deliver k) ≡ true → Comes (run script.plan es) k
unfolding may
delivers-so script es k h =
    let p = both (nat_lt 0 (progress script es).phase && is_nil (progress script es).todo) (may_deliver (progress script es) k) h in
    let come = (both (may_come (progress script es).world (slice_get (progress script es).world.envelopes k)) _ p.1).0 in
    let here : may_come (run script.plan es) (slice_get (run script.plan es).envelopes k) ≡ true = subst (λ (w : World). may_come w (slice_get w.envelopes k) ≡ true) (progress-run script es) come in
    by-option (run script.plan es) (slice_get (run script.plan es).envelopes k) refl here
  where
    by-option : (w : World) (o : Option Envelope) → slice_get w.envelopes k ≡ o → may_come w o ≡ true → Comes w k
    by-option w None e g = cc
    by-option w (Some e) s g = record { envelope = e; is_sent = s; may = g }

mills-here : (w : World) (a r : ℕ) → may_mill w a r ≡ true → Mills w a r
mills-here w a r h = by-role (role_of w.plan a) refl h
  where
    by-role : (x : Role) → role_of w.plan a ≡ x → nat_le 1 r && nat_le r 16 && nat_le r (ready_role w a x) ≡ true → Mills w a r
    by-role (IsSource s) e g = absurd (none-mills r 0 g refl)
    by-role (IsClient c) e g = absurd (none-mills r 0 g refl)
    by-role Nobody e g = absurd (none-mills r 0 g refl)
    by-role (IsNode f q) e g = by-node (slot_of w a).node refl g
      where
        by-node : (o : Option PlainNode) → (slot_of w a).node ≡ o → nat_le 1 r && nat_le r 16 && nat_le r (ready_in (home_of w.plan (f, q)) o) ≡ true → Mills w a r
        by-node None up k = absurd (none-mills r 0 k refl)
        by-node (Some n) up k = record { frag = f; replica = q; node = n; role = e; is_up = up; may = k }

pub mills-so : (script : Script) (es : List Event) (a r : ℕ) → may script es (Mill a r) ≡ true → Mills (run script.plan es) a r
unfolding may
mills-so script es a r h =
    let p = both (nat_lt 0 (progress script es).phase && is_nil (progress script es).todo) (may_mill (progress script es).world a r) h in
    mills-here (run script.plan es) a r (subst (λ (w : World). may_mill w a r ≡ true) (progress-run script es) p.1)
