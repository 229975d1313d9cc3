-- One phase of the one-thread journal, all phases, and the quiet ones.
use Rattle.std.proofs.Common.{◌≡◌, ℕ, zero, suc, ◌+◌, ◌-◌, ◌≤◌, ◌<◌, Bool, true, false, not, ◌&&◌, ◌||◌, ◌==◌, nat_lt, nat_le, List, [], ◌∷◌, ◌++◌, map, length, refl, sym, ap, subst, ◌∙◌, arith, Option, Some, None, slice_get}
use Rattle.std.specs.Prelude.{fold, flat_map, replicate}
use Rattle.std.specs.List.{filter}
use Rattle.std.proofs.lemmas.Option.{slice_get_past}
use Rattle.dpc_lists.specs.Lists.{list_all, range_with_len, is_nil, has}
use Rattle.dpc_model.specs.Actors.{roles_of}
use Rattle.dpc_model.specs.declared.messages.Event.{Event}
use Rattle.dpc_model.specs.declared.messages.Event.TheVariants.{Phase, Deliver, Tick}
use Rattle.dpc_model.specs.declared.plans.Plan.{Plan}
use Rattle.dpc_model.specs.declared.scripts.Directive.{Directive}
use Rattle.dpc_model.specs.declared.scripts.Script.{Script}
use Rattle.node_model.specs.Nodes.{PlainNode}
use Rattle.world_model.specs.Worlds.{World, node_at, ready_at, is_up}
use Rattle.world_model.specs.Schedules.{Undelivered, Progress, Told, tell_all, tell_directive, tell_phase, phase_events, mill_events, deliveries_of, next_progress, may_come, all_ticked, all_delivered, all_milled, is_phase_complete, phase_left, phase_of, pending_in, actors_of}
use Rattle.dpc_lists.proofs.Truths.{both-of, le-test, lt-of, not-lt, or-right}
use Rattle.law_schedules.proofs.Stages.{at, Follows, Reached, reached, reached-then}
use Rattle.law_schedules.proofs.Calm.{IsLike, like-itself}
use Rattle.law_schedules.proofs.Targets.{Meets, AllMet}
use Rattle.law_schedules.proofs.Waits.{fresh_from, blocked-done, fresh-done, blocked-pending}
use Rattle.law_schedules.proofs.Doing.{IsGoing, IsMilledUpto, mills-all, tell-append}
use Rattle.law_schedules.proofs.Delivering.{IsDelivered, deliver-all, IsTicking, tick-all}
use Rattle.law_schedules.proofs.Directing.{IsDirected, directives-told, IsBetween, phase-opened}

-- ---- all is milled

nobody-ready : (w : World) (b : ℕ) → length (roles_of w.plan) ≤ b → ready_at w b ≡ 0
nobody-ready w b h = rw (slice_get_past (roles_of w.plan) b h) refl

all-ready : (script : Script) (p start : ℕ) (base : World) (ws : List Undelivered) (n : ℕ) (y : Progress) → n ≡ length (roles_of base.plan) → IsMilledUpto script p start base ws (0 + n) base y → (b : ℕ) → ready_at y.world b ≡ 0
all-ready script p start base ws n y e m b =
    (elim (nat_lt b n) as (λ t. nat_lt b n ≡ t → ready_at y.world b ≡ 0) [
      | true ↦ λ k. let less = lt-of b n k in m.below b (omega (arith, less))
      | false ↦ λ k. let more = not-lt b n k in m.past b (omega (arith, more)) ∙ nobody-ready base b (omega (arith, more, e))
    ]) refl

met-without : (w : World) (f : ℕ → ℕ) (ts : List (ℕ × ℕ)) → ((b : ℕ) → f b ≡ 0) → AllMet w f ts → AllMet w (λ _. 0) ts
met-without w f [] none h = tt
met-without w f (t ∷ ts) none h = (subst (λ (n : ℕ). Meets (node_at w t.0) t.1 n) (none t.0) h.0, met-without w f ts none h.1)

met-milled : (w : World) (ts : List (ℕ × ℕ)) → AllMet w (λ _. 0) ts → list_all (λ (t : ℕ × ℕ). nat_le t.1 (elim (node_at w t.0) [ None ↦ t.1 | Some n ↦ n.cursor ])) ts ≡ true
met-milled w [] h = refl
met-milled w (t ∷ ts) h = both-of _ _ (by-node (node_at w t.0) h.0) (met-milled w ts h.1)
  where
    by-node : (o : Option PlainNode) → Meets o t.1 0 → nat_le t.1 (elim o [ None ↦ t.1 | Some n ↦ n.cursor ]) ≡ true
    by-node None k = le-test t.1 t.1 (omega arith)
    by-node (Some n) k = le-test t.1 n.cursor (omega (arith, k))

-- ---- the phase is complete

range-all : (test : ℕ → Bool) (k n : ℕ) → ((b : ℕ) → b < k + n → test b ≡ true) → list_all test (range_with_len k n) ≡ true
range-all test k zero h = refl
range-all test k (suc n) h = both-of (test k) _ (h k (omega arith)) (range-all test (k + 1) n (λ b less. h b (omega (arith, less))))

-- all that are up have ticked
pub all-tick : (base : World) (y : Progress) → IsLike base y.world → ((b : ℕ) → b < 0 + length (roles_of base.plan) → (not (is_up base b) || has y.ticked b) ≡ true) → all_ticked y ≡ true
all-tick base y like done =
    subst (λ (plan : Plan). list_all (λ a. not (is_up y.world a) || has y.ticked a) (actors_of plan) ≡ true) (sym like.plan)
    (range-all (λ a. not (is_up y.world a) || has y.ticked a) 0 (length (roles_of base.plan)) (λ b less. ap (λ (up : Bool). not up || has y.ticked b) (like.up b) ∙ done b less))

pub is-complete : (y : Progress) → y.todo ≡ [] → all_ticked y ≡ true → all_delivered y ≡ true → AllMet y.world (λ _. 0) y.targets → is_phase_complete y ≡ true
is-complete y todo ticks delivers met =
    let done : is_nil y.todo ≡ true = ap (λ (ds : List Directive). is_nil ds) todo in
    or-right (y.phase == 0) (is_nil y.todo && all_ticked y && all_delivered y && all_milled y)
    (both-of (is_nil y.todo && all_ticked y && all_delivered y) (all_milled y) (both-of (is_nil y.todo && all_ticked y) (all_delivered y) (both-of (is_nil y.todo) (all_ticked y) done ticks) delivers) (met-milled y.world y.targets met))

phase-closed : (script : Script) (p start : ℕ) (base : World) (y : Progress) → IsTicking script p start base (0 + length (roles_of base.plan)) y → IsBetween script (p + 1) start y
phase-closed script p start base y t =
    let d = t.going.doing in
    let delivers : all_delivered y ≡ true =
    subst (λ (ws : List Undelivered). list_all (λ (x : Undelivered). not x.pending || not (may_come y.world (slice_get y.world.envelopes x.number))) ws ≡ true) (sym d.waiting)
    (blocked-done y.world start t.others (fresh_from start (length y.world.envelopes - start)) t.blocked (fresh-done y.world start (length y.world.envelopes - start))) in
    record {
      phase = ap (λ (i : ℕ). i + 1) d.phase;
      complete = is-complete y d.todo (all-tick base y d.like t.done) delivers t.going.met;
      others = t.others;
      gone = blocked-pending y.world start t.others t.blocked;
      grown = d.grown;
      waiting = d.waiting;
      plan = d.plan;
      zeroed = d.zeroed;
    }

-- ---- the events behind the directives

behind-told : (script : Script) (p first start : ℕ) (old : World) (ds : List Directive) (now : ℕ) (y : Progress) (es : List Event) → 1 ≤ p → first ≤ start → now ≡ (phase_of script p).now → Follows script y es →
    IsDirected script p start old (pending_in old ds (fresh_from first (start - first))) [] y →
    Reached script (IsBetween script (p + 1) start) (tell_all (at y es) (phase_events y.world ds (range_with_len first (start - first)) now))
behind-told script p first start old ds now y es low order clock f h =
    subst (λ (x : Told). Reached script Between x) (sym (tell-append (at y es) (milling ++ delivering) ticking ∙ ap (λ (x : Told). tell_all x ticking) (tell-append (at y es) milling delivering)))
    (reached-then script (IsTickable) Between (λ x. tell_all x ticking) (tell_all (tell_all (at y es) milling) delivering)
    (reached-then script IsMilled IsTickable (λ x. tell_all x delivering) (tell_all (at y es) milling)
    (mills-all script p start w ws 0 n w y es low f began)
    delivers)
    ticks)
  where
    w : World
    w = y.world

    ws : List Undelivered
    ws = pending_in old ds (fresh_from first (start - first))

    n : ℕ
    n = length (roles_of w.plan)

    milling : List Event
    milling = flat_map (λ a. mill_events a (ready_at w a)) (actors_of w.plan)

    delivering : List Event
    delivering = flat_map (λ k. replicate (deliveries_of w ds k) (Deliver k)) (range_with_len first (start - first))

    ticking : List Event
    ticking = map (λ a. Tick a now) (filter (is_up w) (actors_of w.plan))

    Between : Progress → Type 0
    Between = IsBetween script (p + 1) start

    IsMilled : Progress → Type 0
    IsMilled = IsMilledUpto script p start w ws (0 + n) w

    IsTickable : Progress → Type 0
    IsTickable = IsDelivered script p start w

    began : IsMilledUpto script p start w ws 0 w y
    began =
        record {
          going = record {
            doing = record {
              phase = h.phase;
              todo = h.todo;
              grown = h.grown;
              waiting = h.waiting;
              ticked = h.ticked;
              plan = h.plan;
              zeroed = h.zeroed;
              like = like-itself w;
            };
            met = h.met;
          };
          below = λ b less. absurd (omega (arith, less));
          past = λ b more. refl;
        }

    delivers : (z : Progress) (fs : List Event) → Follows script z fs → IsMilled z → Reached script IsTickable (tell_all (at z fs) delivering)
    delivers z fs g m =
        deliver-all script p start old w ds [] first (start - first) z fs low (omega (arith, order)) h.grown h.same g
        (record { going = record { doing = m.going.doing; met = met-without z.world (ready_at z.world) z.targets (all-ready script p start w ws n z refl m) m.going.met }; blocked = refl })

    ticks : (z : Progress) (fs : List Event) → Follows script z fs → IsTickable z → Reached script Between (tell_all (at z fs) ticking)
    ticks z fs g t =
        let none = t.going.doing.ticked in
        reached-then script (IsTicking script p start w (0 + n)) Between (λ x. x) (tell_all (at z fs) ticking)
        (tick-all script p start w now 0 n z fs low clock g (record {
          others = t.others;
          going = subst (λ (ts : List ℕ). IsGoing script p start w t.others ts z) (sym none) t.going;
          blocked = t.blocked;
          seen = λ b k. absurd (differ (sym (ap (λ (ts : List ℕ). has ts b) none) ∙ k));
          done = λ b less. absurd (omega (arith, less));
        }))
        (λ u gs i k. reached script Between u gs i (phase-closed script p start w u k))
      where
        differ : false ≡ true → ⊥
        differ x = cc

-- ---- a phase

pub phase-told : (script : Script) (p first : ℕ) (y : Progress) (es : List Event) → Follows script y es → IsBetween script p first y → phase_left script y ≡ true →
    Reached script (IsBetween script (p + 1) (length y.world.envelopes)) (tell_phase p first (phase_of script p).directives (phase_of script p).now (at y es))
phase-told script p first y es f h left =
    let opened = phase-opened script p first y es f h left in
    let ds = (phase_of script p).directives in
    let start = length y.world.envelopes in
    let number = h.phase in
    let ws = pending_in y.world ds (fresh_from first (start - first)) in
    reached-then script (IsDirected script p start y.world ws []) (IsBetween script (p + 1) start) (λ x. tell_all x (phase_events x.world ds (range_with_len first (start - first)) (phase_of script p).now)) (fold tell_directive (at (next_progress script y (Phase p)) (Phase p ∷ es)) ds)
    (directives-told script p start y.world ws ds (next_progress script y (Phase p)) (Phase p ∷ es) opened.0 opened.1)
    (λ z fs g k. behind-told script p first start y.world ds (phase_of script p).now z fs (omega (arith, number)) h.grown refl g k)
