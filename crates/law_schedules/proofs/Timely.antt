-- The clocks of a journal that is live so far, and how a live journal ends.
use Rattle.std.proofs.Common.{◌≡◌, ℕ, zero, suc, ◌+◌, ◌-◌, ◌^◌, ◌≤◌, ◌<◌, Bool, true, false, not, cond, ◌&&◌, ◌==◌, nat_lt, nat_le, List, [], ◌∷◌, map, length, refl, sym, ap, subst, ◌∙◌, arith, Option, Some, None, is_some, ◌⊎◌, inl, inr}
use Rattle.std.specs.Prelude.{fold}
use Rattle.std.proofs.lemmas.Option.{slice_get_past}
use Rattle.dpc_lists.specs.Lists.{nth, is_nil, has}
use Rattle.dpc_model.specs.Actors.{role_of}
use Rattle.dpc_model.specs.declared.actors.Role.{Role}
use Rattle.dpc_model.specs.declared.actors.Role.TheVariants.{Source as IsSource, Node as IsNode, Client as IsClient, Nobody}
use Rattle.dpc_model.specs.declared.messages.Event.{Event}
use Rattle.dpc_model.specs.declared.messages.Event.TheVariants.{Phase, Emit, Release, Cut, Heal, Crash, Restart, Deliver, Tick, Mill}
use Rattle.dpc_model.specs.declared.scripts.Phase.{Phase as PhaseSpec}
use Rattle.dpc_model.specs.declared.scripts.Script.{Script}
use Rattle.node_model.specs.Nodes.{PlainNode}
use Rattle.world_model.specs.Worlds.{World, slot_of, source_at, client_at, is_up, role_up, run, all_settled}
use Rattle.world_model.specs.Schedules.{Progress, first_progress, next_progress, progress_from, progress, may, may_follow, follows_from, is_live_so_far, is_live, is_phase_complete, phase_left, phase_of, last_clock, now_of, quiet_limit}
use Rattle.dpc_lists.proofs.Truths.{both, both-of, eq-of, le-of, le-test, lt-of, not-lt, not-of, neither}
use Rattle.law_schedules.specs.Journals.{phases_in, most_phases, Ticks, node_clock, clock_by, are_rising, IsClocked}
use Rattle.law_schedules.proofs.Clocks.{IsTimely, ClockWithin, timely-later, new-timely, source-clock, client-clock, node-clock, happens-timely}
use Rattle.law_schedules.proofs.Journals.{live-far, phases-counted, phases-few, few-from, progress-run}

-- ---- the clocks of phases

rising-next : (low : ℕ) (d : PhaseSpec) (xs : List PhaseSpec) (i : ℕ) → are_rising low xs ≡ true → i + 1 < length xs → (nth d xs i).now ≤ (nth d xs (i + 1)).now
rising-next low d [] i h l = absurd (omega (arith, l))
rising-next low d (x ∷ []) i h l = absurd (omega (arith, l))
rising-next low d (x ∷ y ∷ ys) zero h l =
    let p = both (nat_le low x.now) (nat_le x.now y.now && are_rising y.now ys) h in
    le-of x.now y.now (both (nat_le x.now y.now) (are_rising y.now ys) p.1).0
rising-next low d (x ∷ y ∷ ys) (suc i) h l =
    let p = both (nat_le low x.now) (nat_le x.now y.now && are_rising y.now ys) h in
    let on : suc i + 1 ≡ suc (i + 1) = omega arith in
    rw on (rising-next x.now d (y ∷ ys) i p.1 (omega (arith, l)))

rising-last : (low a : ℕ) (d : PhaseSpec) (xs : List PhaseSpec) (i : ℕ) → are_rising low xs ≡ true → i < length xs → (nth d xs i).now ≤ fold (λ _ now. now) a (map (λ (p : PhaseSpec). p.now) xs)
rising-last low a d [] i h l = absurd (omega (arith, l))
rising-last low a d (x ∷ []) zero h l = omega arith
rising-last low a d (x ∷ []) (suc i) h l = absurd (omega (arith, l))
rising-last low a d (x ∷ y ∷ ys) zero h l =
    let p = both (nat_le low x.now) (nat_le x.now y.now && are_rising y.now ys) h in
    let first = le-of x.now y.now (both (nat_le x.now y.now) (are_rising y.now ys) p.1).0 in
    let rest = rising-last x.now x.now d (y ∷ ys) 0 p.1 (omega arith) in
    omega (arith, first, rest)
rising-last low a d (x ∷ y ∷ ys) (suc i) h l =
    let p = both (nat_le low x.now) (nat_le x.now y.now && are_rising y.now ys) h in
    rising-last x.now x.now d (y ∷ ys) i p.1 (omega (arith, l))

nth-default : (d e : PhaseSpec) (xs : List PhaseSpec) (i : ℕ) → i < length xs → nth d xs i ≡ nth e xs i
nth-default d e [] i h = absurd (omega (arith, h))
nth-default d e (x ∷ xs) zero h = refl
nth-default d e (x ∷ xs) (suc i) h = nth-default d e xs i (omega (arith, h))

-- the clock that a quiet phase of this number has
quiet-clock : (script : Script) (p : ℕ) → length script.phases ≤ p - 1 → (phase_of script p).now ≡ last_clock script + (p - length script.phases)
quiet-clock script p h = rw (slice_get_past script.phases (p - 1) h) refl

-- a phase's clock is at most the last one's, and one more for each quiet phase
pub clock-within : (script : Script) (p : ℕ) → are_rising 0 script.phases ≡ true → (phase_of script p).now ≤ last_clock script + (p - length script.phases)
clock-within script p h =
    (elim (nat_lt (p - 1) (length script.phases)) as (λ b. nat_lt (p - 1) (length script.phases) ≡ b → (phase_of script p).now ≤ last_clock script + (p - length script.phases)) [
      | true ↦ λ e.
          let low = lt-of (p - 1) (length script.phases) e in
          let last = rising-last 0 0 (record { directives = []; now = last_clock script + (p - length script.phases) }) script.phases (p - 1) h low in
          omega (arith, last)
      | false ↦ λ e.
          let high = not-lt (p - 1) (length script.phases) e in
          let same = quiet-clock script p high in
          omega (arith, same)
    ]) refl

-- the next phase's clock is no less
pub clock-rises : (script : Script) (p : ℕ) → are_rising 0 script.phases ≡ true → (phase_of script p).now ≤ (phase_of script (p + 1)).now
clock-rises script p h =
    (elim (nat_lt p (length script.phases)) as (λ b. nat_lt p (length script.phases) ≡ b → (phase_of script p).now ≤ (phase_of script (p + 1)).now) [
      | true ↦ λ e. inside p (lt-of p (length script.phases) e)
      | false ↦ λ e.
          let high = not-lt p (length script.phases) e in
          let here = clock-within script p h in
          let next = quiet-clock script (p + 1) (omega (arith, high)) in
          omega (arith, here, next)
    ]) refl
  where
    inside : (q : ℕ) → q < length script.phases → (phase_of script q).now ≤ (phase_of script (q + 1)).now
    inside zero l =
        let same = ap (λ (s : PhaseSpec). s.now) (nth-default (record { directives = []; now = last_clock script + (0 - length script.phases) }) (record { directives = []; now = last_clock script + (0 + 1 - length script.phases) }) script.phases 0 l) in
        omega (arith, same)
    inside (suc i) l =
        let same = ap (λ (s : PhaseSpec). s.now)
        (nth-default (record { directives = []; now = last_clock script + (suc i - length script.phases) }) (record { directives = []; now = last_clock script + (suc i + 1 - length script.phases) }) script.phases i (omega (arith, l))) in
        let rises = rising-next 0 (record { directives = []; now = last_clock script + (suc i + 1 - length script.phases) }) script.phases i h (omega (arith, l)) in
        let place : suc i - 1 ≡ i = omega arith in
        let also : suc i + 1 - 1 ≡ i + 1 = omega arith in
        rw (place, also) (omega (arith, same, rises))

-- ---- no clock is ahead

next-timely : (script : Script) (x : Progress) (e : Event) → are_rising 0 script.phases ≡ true → may_follow script x e ≡ true → IsTimely (now_of script x) x.world → IsTimely (now_of script (next_progress script x e)) (next_progress script x e).world
next-timely script x (Phase p) r h t =
    let q = both (p == x.phase + 1 && is_phase_complete x) (phase_left script x) h in
    let same = eq-of p (x.phase + 1) (both (p == x.phase + 1) (is_phase_complete x) q.0).0 in
    subst (λ (i : ℕ). IsTimely (phase_of script i).now x.world) (sym same) (timely-later (phase_of script x.phase).now (phase_of script (x.phase + 1)).now x.world (clock-rises script x.phase r) t)
next-timely script x (Tick a now) r h t =
    let same = eq-of now (now_of script x) (both (nat_lt 0 x.phase && is_nil x.todo && is_up x.world a && not (has x.ticked a)) (now == now_of script x) h).1 in
    happens-timely (now_of script x) x.world (Tick a now) (λ b other e. let clock : now ≡ other = cc in omega (arith, same, clock)) t
next-timely script x (Emit s u) r h t = happens-timely (now_of script x) x.world (Emit s u) (λ a now e. absurd (cc)) t
next-timely script x (Release s u) r h t = happens-timely (now_of script x) x.world (Release s u) (λ a now e. absurd (cc)) t
next-timely script x (Cut a b) r h t = happens-timely (now_of script x) x.world (Cut a b) (λ c now e. absurd (cc)) t
next-timely script x (Heal a b) r h t = happens-timely (now_of script x) x.world (Heal a b) (λ c now e. absurd (cc)) t
next-timely script x (Crash a) r h t = happens-timely (now_of script x) x.world (Crash a) (λ c now e. absurd (cc)) t
next-timely script x (Restart a i) r h t = happens-timely (now_of script x) x.world (Restart a i) (λ c now e. absurd (cc)) t
next-timely script x (Deliver k) r h t = happens-timely (now_of script x) x.world (Deliver k) (λ c now e. absurd (cc)) t
next-timely script x (Mill a i) r h t = happens-timely (now_of script x) x.world (Mill a i) (λ c now e. absurd (cc)) t

timely-from : (script : Script) (x : Progress) (es : List Event) → are_rising 0 script.phases ≡ true → follows_from script x es ≡ true → IsTimely (now_of script x) x.world → IsTimely (now_of script (progress_from script x es)) (progress_from script x es).world
timely-from script x [] r h t = t
timely-from script x (e ∷ es) r h t =
    let p = both (may_follow script x e) (follows_from script (next_progress script x e) es) h in
    timely-from script (next_progress script x e) es r p.1 (next-timely script x e r p.0 t)

-- ---- a tick

-- its clock is its phase's
pub tick-clock : (script : Script) (es : List Event) (a now : ℕ) → is_live_so_far script es ≡ true → may script es (Tick a now) ≡ true → now ≡ (phase_of script (phases_in es)).now
unfolding may
tick-clock script es a now l h =
    let x = progress script es in
    let same = eq-of now (now_of script x) (both (nat_lt 0 x.phase && is_nil x.todo && is_up x.world a && not (has x.ticked a)) (now == now_of script x) h).1 in
    same ∙ ap (λ (p : ℕ). (phase_of script p).now) (phases-counted script es l)

-- and it is not void
ticks-here : (w : World) (a now c : ℕ) → IsTimely c w → c ≤ now → now ≤ 2 ^ 40 → is_up w a ≡ true → Ticks w a now
ticks-here w a now c t h k up = by-role (role_of w.plan a) refl up
  where
    by-role : (x : Role) → role_of w.plan a ≡ x → role_up w a x ≡ true → Ticks w a now
    by-role (IsSource s) e u =
        let old = source-clock c w s t in
        record {
          old = (source_at w s).clock;
          is_up = rw e refl;
          may = both-of (nat_le (source_at w s).clock now) (nat_le now (2 ^ 40)) (le-test (source_at w s).clock now (omega (arith, old, h))) (le-test now (2 ^ 40) k);
        }
    by-role (IsNode f r) e u = by-node (slot_of w a).node refl u (node-clock c w a t)
      where
        by-node : (o : Option PlainNode) → (slot_of w a).node ≡ o → is_some o ≡ true → ClockWithin c o → Ticks w a now
        by-node None g v old = cc
        by-node (Some n) g v old =
            record {
              old = n.clock;
              is_up = ap (λ (x : Role). clock_by w a x) e ∙ ap node_clock g;
              may = both-of (nat_le n.clock now) (nat_le now (2 ^ 40)) (le-test n.clock now (omega (arith, old, h))) (le-test now (2 ^ 40) k);
            }
    by-role (IsClient s) e u =
        let old = client-clock c w s t in
        record {
          old = (client_at w s).clock;
          is_up = rw e refl;
          may = both-of (nat_le (client_at w s).clock now) (nat_le now (2 ^ 40)) (le-test (client_at w s).clock now (omega (arith, old, h))) (le-test now (2 ^ 40) k);
        }
    by-role Nobody e u = cc

settled-few : (script : Script) → most_phases script ≤ length script.phases + quiet_limit script.plan
settled-few script = elim (script.settle) as (λ b. cond b (length script.phases + quiet_limit script.plan) (length script.phases) ≤ length script.phases + quiet_limit script.plan) [
  | true ↦ omega arith
  | false ↦ omega arith
]

pub ticks-so : (script : Script) (es : List Event) (a now : ℕ) → IsClocked script → is_live_so_far script es ≡ true → may script es (Tick a now) ≡ true → Ticks (run script.plan es) a now
unfolding may is_live_so_far progress
ticks-so script es a now clocked l h =
    let x = progress_from script (first_progress script) es in
    let p = both (nat_lt 0 x.phase && is_nil x.todo && is_up x.world a && not (has x.ticked a)) (now == now_of script x) h in
    let up = (both (nat_lt 0 x.phase && is_nil x.todo) (is_up x.world a) (both (nat_lt 0 x.phase && is_nil x.todo && is_up x.world a) (not (has x.ticked a)) p.0).0).1 in
    let same = eq-of now (now_of script x) p.1 in
    let timely = timely-from script (first_progress script) es clocked.rising l (new-timely script.plan (now_of script (first_progress script))) in
    let here = clock-within script x.phase clocked.rising in
    let few = few-from script (first_progress script) es l (omega arith) in
    let within = clocked.within in
    subst (λ (w : World). Ticks w a now) (progress-run script es) (ticks-here x.world a now (now_of script x) timely (omega (arith, same)) (omega (arith, same, here, few, within)) up)

-- ---- the end

-- a live journal has all phases of the script; where it ends with settle, every client is settled or all quiet phases went by
pub live-complete : (script : Script) (es : List Event) → is_live script es ≡ true → is_phase_complete (progress script es) ≡ true
unfolding is_live
live-complete script es h =
    let x = progress script es in
    let p = both (is_live_so_far script es && is_phase_complete x) (not (phase_left script x)) h in (both (is_live_so_far script es) (is_phase_complete x) p.0).1

pub live-ends : (script : Script) (es : List Event) → is_live script es ≡ true →
    (length script.phases ≤ phases_in es) × (script.settle ≡ true → (all_settled (run script.plan es) ≡ true) ⊎ (phases_in es ≡ length script.phases + quiet_limit script.plan))
unfolding is_live
live-ends script es h =
    let x = progress script es in
    let ended = not-of (phase_left script x) (both (is_live_so_far script es && is_phase_complete x) (not (phase_left script x)) h).1 in
    let far = live-far script es h in
    ended-so x ended (phases-counted script es far) (progress-run script es) (phases-few script es far)
  where
    ended-so : (x : Progress) → phase_left script x ≡ false → x.phase ≡ phases_in es → x.world ≡ run script.plan es → phases_in es ≤ most_phases script →
        (length script.phases ≤ phases_in es) × (script.settle ≡ true → (all_settled (run script.plan es) ≡ true) ⊎ (phases_in es ≡ length script.phases + quiet_limit script.plan))
    ended-so x e count world most =
        let p = neither (nat_lt x.phase (length script.phases)) _ e in
        let all = not-lt x.phase (length script.phases) p.0 in
        (omega (arith, all, count), λ on. by-settled on (all_settled x.world) refl p.1)
      where
        by-settled : script.settle ≡ true → (b : Bool) → all_settled x.world ≡ b → (script.settle && not (all_settled x.world) && nat_lt (x.phase - length script.phases) (quiet_limit script.plan)) ≡ false →
            (all_settled (run script.plan es) ≡ true) ⊎ (phases_in es ≡ length script.phases + quiet_limit script.plan)
        by-settled on true g k = inl (ap (λ (w : World). all_settled w) (sym world) ∙ g)
        by-settled on false g k =
            let last : nat_lt (x.phase - length script.phases) (quiet_limit script.plan) ≡ false = rw (on, g) at k in
            let gone = not-lt (x.phase - length script.phases) (quiet_limit script.plan) last in
            let few = settled-few script in
            let whole = not-lt x.phase (length script.phases) (neither (nat_lt x.phase (length script.phases)) _ e).0 in
            inr (omega (arith, gone, few, most, count, whole))
