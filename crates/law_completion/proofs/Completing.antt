-- From whatever point of a journal that is live so far its phase can be completed, and then the run.
use Rattle.std.proofs.Common.{◌≡◌, ℕ, zero, suc, ◌+◌, ◌-◌, ◌≤◌, Bool, true, false, not, cond, ◌&&◌, ◌==◌, List, [], ◌∷◌, ◌++◌, length, refl, sym, ap, subst, ◌∙◌, arith, Option, Some, None, slice_get}
use Rattle.std.proofs.lemmas.List.{append-nil}
use Rattle.dpc_lists.specs.Lists.{IsRising}
use Rattle.dpc_model.specs.Actors.{roles_of}
use Rattle.dpc_model.specs.declared.messages.Event.{Event}
use Rattle.dpc_model.specs.declared.messages.Event.TheVariants.{Phase}
use Rattle.dpc_model.specs.declared.scripts.Directive.{Directive}
use Rattle.dpc_model.specs.declared.scripts.Script.{Script}
use Rattle.node_model.specs.Nodes.{PlainNode}
use Rattle.world_model.specs.Worlds.{World, node_at, ready_at, run}
use Rattle.world_model.specs.Schedules.{Progress, first_progress, next_progress, progress_from, progress, may_follow, follows_from, is_live_so_far, is_live, is_phase_complete, phase_left}
use Rattle.dpc_lists.proofs.Truths.{both-of, eq-test, not-zero}
use Rattle.world_model.proofs.Running.{progress-append}
use Rattle.law_schedules.specs.Journals.{phases_in, most_phases}
use Rattle.law_schedules.proofs.Stages.{follows-append}
use Rattle.law_schedules.proofs.Calm.{like-itself}
use Rattle.law_schedules.proofs.Targets.{Meets, AllMet}
use Rattle.law_schedules.proofs.Waits.{fresh_from}
use Rattle.law_schedules.proofs.Doing.{IsGoing}
use Rattle.law_schedules.proofs.Journals.{progress-run, phases-counted, phases-few}
use Rattle.law_completion.specs.Completing.{directing, milling, delivering, ticking, behind_directives, completing, finishing}
use Rattle.law_completion.proofs.Standing.{actors_in, AreTargets, IsStanding, live-standing}
use Rattle.law_completion.proofs.Leads.{Leads, leads-none, leads-on, leads-then, leads-weaker, IsFree, directs}
use Rattle.law_completion.proofs.Milling.{IsMillingFrom, mill-all}
use Rattle.law_completion.proofs.Delivering.{IsDelivered, deliver-all}
use Rattle.law_completion.proofs.Ticking.{IsTicking, tick-first, tick-all, ticked-complete}
use Rattle.law_completion.proofs.Waiting.{waiting-in-order}

-- ---- a journal and what follows it

pub live-append : (script : Script) (es fs : List Event) → is_live_so_far script es ≡ true → follows_from script (progress script es) fs ≡ true → is_live_so_far script (es ++ fs) ≡ true
unfolding is_live_so_far progress
live-append script es fs h k = follows-append script (first_progress script) es fs h k

pub progress-behind : (script : Script) (es fs : List Event) → progress script (es ++ fs) ≡ progress_from script (progress script es) fs
unfolding progress
progress-behind script es fs = progress-append script (first_progress script) es fs

-- ---- behind the directives

-- the phase is complete
pub record IsComplete (p : ℕ) (y : Progress) : Type 0 where
  pub phase : y.phase ≡ p
  pub complete : is_phase_complete y ≡ true

pub behind-leads : (script : Script) (es : List Event) → is_live_so_far script es ≡ true → (progress script es).todo ≡ [] → 1 ≤ (progress script es).phase →
    Leads script (IsComplete (progress script es).phase) (progress script es) (behind_directives script (progress script es))
behind-leads script es live done low =
    leads-weaker script (IsTicking script p start w x.ticked (0 + n)) (IsComplete p) x (behind_directives script x) (λ y t. record { phase = t.going.doing.phase; complete = ticked-complete script p start w x.ticked y t })
    (leads-then script (IsDelivered script p start w x.ticked) (IsTicking script p start w x.ticked (0 + n)) x (milling x ++ delivering x) (ticking script x)
    (leads-then script (IsGoing script p start w x.waiting x.ticked) (IsDelivered script p start w x.ticked) x (milling x) (delivering x)
    (mill-all script p start w x.waiting x.ticked x.targets low [] x.targets 0 x refl targets.1 targets.0 began)
    (λ y g. deliver-all script p start w x.ticked low (omega arith) x.waiting 0 y (omega arith) (waiting-in-order script es live) g))
    (λ y d. tick-all script p start w x.ticked _ 0 n y low refl (tick-first script p start w x.ticked y d)))
  where
    x : Progress
    x = progress script es

    p : ℕ
    p = x.phase

    w : World
    w = x.world

    start : ℕ
    start = length w.envelopes

    n : ℕ
    n = length (roles_of w.plan)

    standing : IsStanding script x
    standing = live-standing script es live

    targets : AllMet w (ready_at w) x.targets × IsRising 0 (actors_in x.targets)
    targets = subst (λ (ds : List Directive). AreTargets w ds x.targets) done standing.targets

    began : IsMillingFrom script p start w x.waiting x.ticked x.targets [] 0 x
    began =
        let none : length w.envelopes - length w.envelopes ≡ 0 = omega arith in
        record {
          doing = record {
            phase = refl;
            todo = done;
            grown = omega arith;
            waiting = sym (append-nil x.waiting) ∙ ap (λ (m : ℕ). x.waiting ++ fresh_from start m) (sym none);
            ticked = refl;
            plan = standing.plan;
            zeroed = standing.zeroed;
            like = like-itself w;
          };
          within = λ q h. h;
          reached = refl;
          node = λ b more. refl;
          ready = λ b more. refl;
        }

-- ---- a phase

pub completing-leads : (script : Script) (es : List Event) → is_live_so_far script es ≡ true → Leads script (IsComplete (progress script es).phase) (progress script es) (completing script (progress script es))
completing-leads script es live =
    (elim (x.phase == 0) as (λ b. (x.phase == 0) ≡ b → Leads script (IsComplete x.phase) x (cond b [] (ds ++ behind_directives script y))) [
      | true ↦ λ e. leads-none script (IsComplete x.phase) x (record { phase = refl; complete = rw e refl })
      | false ↦ λ e. whole (not-zero x.phase e)
    ]) refl
  where
    x : Progress
    x = progress script es

    ds : List Event
    ds = directing x.world x.todo

    y : Progress
    y = progress_from script x ds

    directed : Leads script (IsFree script x.phase) x ds
    directed = directs script x.phase x x.todo refl refl (live-standing script es live)

    whole : 1 ≤ x.phase → Leads script (IsComplete x.phase) x (ds ++ behind_directives script y)
    whole some =
        let here : progress script (es ++ ds) ≡ y = progress-behind script es ds in
        let free = directed.holds in
        let phase : (progress script (es ++ ds)).phase ≡ x.phase = ap (λ (z : Progress). z.phase) here ∙ free.phase in
        let behind = behind-leads script (es ++ ds) (live-append script es ds live directed.live) (ap (λ (z : Progress). z.todo) here ∙ free.todo) (omega (arith, some, phase)) in
        let moved : Leads script (IsComplete x.phase) y (behind_directives script y) =
        subst (λ (z : Progress). Leads script (IsComplete x.phase) z (behind_directives script z)) here
        (subst (λ (p : ℕ). Leads script (IsComplete p) (progress script (es ++ ds)) (behind_directives script (progress script (es ++ ds)))) phase behind) in
        record {
          live = follows-append script x ds (behind_directives script y) directed.live moved.live;
          holds = subst (IsComplete x.phase) (sym (progress-append script x ds (behind_directives script y))) moved.holds;
        }

-- ---- the run

pub record IsEnded (script : Script) (y : Progress) : Type 0 where
  pub complete : is_phase_complete y ≡ true
  pub ended : phase_left script y ≡ false

phase-few : (script : Script) (es : List Event) → is_live_so_far script es ≡ true → (progress script es).phase ≤ most_phases script
phase-few script es h = let counted = phases-counted script es h in let few = phases-few script es h in omega (arith, counted, few)

-- one phase more may be opened
record IsOpened (script : Script) (es : List Event) (y : Progress) : Type 0 where
  may : may_follow script y (Phase (y.phase + 1)) ≡ true
  live : is_live_so_far script ((es ++ completing script (progress script es)) ++ Phase (y.phase + 1) ∷ []) ≡ true
  here : progress script ((es ++ completing script (progress script es)) ++ Phase (y.phase + 1) ∷ []) ≡ next_progress script y (Phase (y.phase + 1))
  phase : (progress script ((es ++ completing script (progress script es)) ++ Phase (y.phase + 1) ∷ [])).phase ≡ (progress script es).phase + 1

opened : (script : Script) (es : List Event) → is_live_so_far script es ≡ true → phase_left script (progress_from script (progress script es) (completing script (progress script es))) ≡ true →
    IsOpened script es (progress_from script (progress script es) (completing script (progress script es)))
opened script es live left =
    let x = progress script es in
    let cs = completing script x in
    let c = completing-leads script es live in
    let y = progress_from script x cs in
    let next = Phase (y.phase + 1) in
    let here : progress script (es ++ cs) ≡ y = progress-behind script es cs in
    let may : may_follow script y next ≡ true = both-of (y.phase + 1 == y.phase + 1 && is_phase_complete y) (phase_left script y) (both-of (y.phase + 1 == y.phase + 1) (is_phase_complete y) (eq-test (y.phase + 1) (y.phase + 1) refl) c.holds.complete) left in
    let live1 = live-append script es cs live c.live in
    let there : progress script ((es ++ cs) ++ next ∷ []) ≡ next_progress script y next = progress-behind script (es ++ cs) (next ∷ []) ∙ ap (λ (z : Progress). next_progress script z next) here in
    let same = c.holds.phase in
    record {
      may = may;
      live = live-append script (es ++ cs) (next ∷ []) live1 (subst (λ (z : Progress). follows_from script z (next ∷ []) ≡ true) (sym here) (both-of (may_follow script y next) true may refl));
      here = there;
      phase = ap (λ (z : Progress). z.phase) there ∙ ap (λ (i : ℕ). i + 1) same;
    }

pub finishing-leads : (most : ℕ) (script : Script) (es : List Event) → is_live_so_far script es ≡ true → most_phases script ≤ (progress script es).phase + most →
    Leads script (IsEnded script) (progress script es) (finishing most script (progress script es))
finishing-leads zero script es live few =
    let x = progress script es in
    let c = completing-leads script es live in
    record { live = c.live; holds = record { complete = c.holds.complete; ended = by-left (phase_left script (progress_from script x (completing script x))) refl } }
  where
    by-left : (b : Bool) → phase_left script (progress_from script (progress script es) (completing script (progress script es))) ≡ b → b ≡ false
    by-left false e = refl
    by-left true e =
        let o = opened script es live e in
        let more = phase-few script _ o.live in
        let phase = o.phase in
        absurd (omega (arith, few, more, phase))
finishing-leads (suc most) script es live few =
    by-left (phase_left script y) refl (λ o. finishing-leads most script ((es ++ cs) ++ Phase (y.phase + 1) ∷ []) o.live (let phase = o.phase in omega (arith, few, phase)))
  where
    x : Progress
    x = progress script es

    cs : List Event
    cs = completing script x

    y : Progress
    y = progress_from script x cs

    next : Event
    next = Phase (y.phase + 1)

    c : Leads script (IsComplete x.phase) x cs
    c = completing-leads script es live

    Rest : Type 0
    Rest = IsOpened script es y → Leads script (IsEnded script) (progress script ((es ++ cs) ++ next ∷ [])) (finishing most script (progress script ((es ++ cs) ++ next ∷ [])))

    joined : (fs : List Event) → Leads script (IsEnded script) y fs → Leads script (IsEnded script) x (cs ++ fs)
    joined fs l = record { live = follows-append script x cs fs c.live l.live; holds = subst (IsEnded script) (sym (progress-append script x cs fs)) l.holds }

    by-left : (b : Bool) → phase_left script y ≡ b → Rest → Leads script (IsEnded script) x (cs ++ (elim b [ false ↦ [] | true ↦ next ∷ finishing most script (next_progress script y next) ]))
    by-left false e rest = joined [] (leads-none script (IsEnded script) y (record { complete = c.holds.complete; ended = e }))
    by-left true e rest =
        let o = opened script es live e in
        joined (next ∷ finishing most script (next_progress script y next)) (leads-on script (IsEnded script) y next (finishing most script (next_progress script y next)) o.may
        (subst (λ (z : Progress). Leads script (IsEnded script) z (finishing most script z)) o.here (rest o)))

-- ---- the laws

pub directives-follow : (script : Script) (es : List Event) → is_live_so_far script es ≡ true → is_live_so_far script (es ++ directing (run script.plan es) (progress script es).todo) ≡ true
directives-follow script es live =
    let x = progress script es in
    let d = directs script x.phase x x.todo refl refl (live-standing script es live) in
    subst (λ (w : World). is_live_so_far script (es ++ directing w x.todo) ≡ true) (progress-run script es) (live-append script es (directing x.world x.todo) live d.live)

pub directives-done : (script : Script) (es : List Event) → is_live_so_far script es ≡ true → (progress script (es ++ directing (run script.plan es) (progress script es).todo)).todo ≡ []
directives-done script es live =
    let x = progress script es in
    let d = directs script x.phase x x.todo refl refl (live-standing script es live) in
    subst (λ (w : World). (progress script (es ++ directing w x.todo)).todo ≡ []) (progress-run script es)
    (ap (λ (z : Progress). z.todo) (progress-behind script es (directing x.world x.todo)) ∙ d.holds.todo)

some-phase : (script : Script) (es : List Event) → is_live_so_far script es ≡ true → 1 ≤ phases_in es → 1 ≤ (progress script es).phase
some-phase script es live some = let counted = phases-counted script es live in omega (arith, some, counted)

pub behind-follow : (script : Script) (es : List Event) → is_live_so_far script es ≡ true → 1 ≤ phases_in es → (progress script es).todo ≡ [] → is_live_so_far script (es ++ behind_directives script (progress script es)) ≡ true
behind-follow script es live some done = live-append script es _ live (behind-leads script es live done (some-phase script es live some)).live

pub behind-complete : (script : Script) (es : List Event) → is_live_so_far script es ≡ true → 1 ≤ phases_in es → (progress script es).todo ≡ [] →
    is_phase_complete (progress script (es ++ behind_directives script (progress script es))) ≡ true
behind-complete script es live some done =
    ap (λ (z : Progress). is_phase_complete z) (progress-behind script es (behind_directives script (progress script es))) ∙ (behind-leads script es live done (some-phase script es live some)).holds.complete

pub completing-follow : (script : Script) (es : List Event) → is_live_so_far script es ≡ true → is_live_so_far script (es ++ completing script (progress script es)) ≡ true
completing-follow script es live = live-append script es _ live (completing-leads script es live).live

pub completing-complete : (script : Script) (es : List Event) → is_live_so_far script es ≡ true → is_phase_complete (progress script (es ++ completing script (progress script es))) ≡ true
completing-complete script es live = ap (λ (z : Progress). is_phase_complete z) (progress-behind script es (completing script (progress script es))) ∙ (completing-leads script es live).holds.complete

pub finishing-live : (script : Script) (es : List Event) → is_live_so_far script es ≡ true → is_live script (es ++ finishing (most_phases script - phases_in es) script (progress script es)) ≡ true
unfolding is_live
finishing-live script es live =
    let x = progress script es in
    let most = most_phases script - phases_in es in
    let counted = phases-counted script es live in
    let f = finishing-leads most script es live (omega (arith, counted)) in
    let fs = finishing most script x in
    let here : progress script (es ++ fs) ≡ progress_from script x fs = progress-behind script es fs in
    let complete : is_phase_complete (progress script (es ++ fs)) ≡ true = ap (λ (z : Progress). is_phase_complete z) here ∙ f.holds.complete in
    let ended : phase_left script (progress script (es ++ fs)) ≡ false = ap (λ (z : Progress). phase_left script z) here ∙ f.holds.ended in
    both-of (is_live_so_far script (es ++ fs) && is_phase_complete (progress script (es ++ fs))) (not (phase_left script (progress script (es ++ fs))))
    (both-of (is_live_so_far script (es ++ fs)) (is_phase_complete (progress script (es ++ fs))) (live-append script es fs live f.live) complete) (ap not ended)

pub goes-on : (script : Script) (es : List Event) → is_live_so_far script es ≡ true → (fs : List Event) × (is_live script (es ++ fs) ≡ true)
goes-on script es live = (finishing (most_phases script - phases_in es) script (progress script es), finishing-live script es live)

-- a target is within reach
target-met : (w : World) (ts : List (ℕ × ℕ)) (i a goal : ℕ) (n : PlainNode) → AllMet w (ready_at w) ts → slice_get ts i ≡ Some (a, goal) → node_at w a ≡ Some n → goal ≤ n.cursor + ready_at w a
target-met w [] i a goal n h e g = cc
target-met w (t ∷ ts) zero a goal n h e g =
    let same : t ≡ (a, goal) = cc in
    let here : Meets (node_at w a) goal (ready_at w a) = subst (λ (u : ℕ × ℕ). Meets (node_at w u.0) u.1 (ready_at w u.0)) same h.0 in
    subst (λ (o : Option PlainNode). Meets o goal (ready_at w a)) g here
target-met w (t ∷ ts) (suc i) a goal n h e g = target-met w ts i a goal n h.1 e g

pub targets-reached : (script : Script) (es : List Event) (i a goal : ℕ) (n : PlainNode) → is_live_so_far script es ≡ true → slice_get (progress script es).targets i ≡ Some (a, goal) → node_at (run script.plan es) a ≡ Some n →
    goal ≤ n.cursor + ready_at (run script.plan es) a
targets-reached script es i a goal n live e =
    subst (λ (w : World). node_at w a ≡ Some n → goal ≤ n.cursor + ready_at w a) (progress-run script es) (by-todo (progress script es).todo (live-standing script es live).targets)
  where
    by-todo : (ds : List Directive) → AreTargets (progress script es).world ds (progress script es).targets → node_at (progress script es).world a ≡ Some n → goal ≤ n.cursor + ready_at (progress script es).world a
    by-todo [] h g = target-met (progress script es).world (progress script es).targets i a goal n h.0 e g
    by-todo (d ∷ ds) h g = let none : ◌≡◌ {A = Option (ℕ × ℕ)} None (Some (a, goal)) = subst (λ (ts : List (ℕ × ℕ)). slice_get ts i ≡ Some (a, goal)) h e in cc
