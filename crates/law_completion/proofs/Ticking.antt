-- The ticks that are still open, and what is complete then.
use Rattle.std.proofs.Common.{◌≡◌, ℕ, zero, suc, ◌+◌, ◌-◌, ◌≤◌, ◌<◌, Bool, true, false, not, cond, ◌&&◌, ◌||◌, ◌==◌, List, [], ◌∷◌, ◌++◌, map, length, refl, sym, ap, subst, ◌∙◌, arith, append_assoc, slice_get}
use Rattle.std.specs.List.{filter}
use Rattle.dpc_lists.specs.Lists.{list_all, range_with_len, has}
use Rattle.dpc_model.specs.Actors.{roles_of}
use Rattle.dpc_model.specs.declared.messages.Event.TheVariants.{Tick}
use Rattle.dpc_model.specs.declared.scripts.Script.{Script}
use Rattle.world_model.specs.Worlds.{World, is_up, happens}
use Rattle.world_model.specs.Schedules.{Undelivered, Progress, next_progress, may_come, phase_of, all_delivered, is_phase_complete}
use Rattle.dpc_lists.proofs.Truths.{both, both-of, eq-of, or-left, true-not-false, not-of}
use Rattle.law_schedules.proofs.Calm.{calm-like, tick-calm}
use Rattle.law_schedules.proofs.Waits.{fresh_from, is_blocked, blocked-kept, blocked-done, fresh-done}
use Rattle.law_schedules.proofs.Doing.{IsGoing}
use Rattle.law_schedules.proofs.Delivering.{tick-next, below-next, ticked-next}
use Rattle.law_schedules.proofs.Phases.{all-tick, is-complete}
use Rattle.law_completion.proofs.Leads.{Leads, leads-none, leads-on}
use Rattle.law_completion.proofs.Delivering.{is_fresh, IsDelivered}

-- the actors below number a have ticked where they are up; from a on those have that had before
pub record IsTicking (script : Script) (p start : ℕ) (base : World) (tk : List ℕ) (a : ℕ) (y : Progress) : Type 0 where
  pub blocked : List Undelivered
  pub fresh : List Undelivered
  pub going : IsGoing script p start base (blocked ++ fresh) y.ticked y
  pub cannot : list_all (is_blocked y.world start) blocked ≡ true
  pub not_pending : list_all is_fresh fresh ≡ true
  pub before : (b : ℕ) → a ≤ b → has y.ticked b ≡ has tk b
  pub done : (b : ℕ) → b < a → (not (is_up base b) || has y.ticked b) ≡ true

pub tick-first : (script : Script) (p start : ℕ) (base : World) (tk : List ℕ) (y : Progress) → IsDelivered script p start base tk y → IsTicking script p start base tk 0 y
tick-first script p start base tk y d =
    let same = d.going.doing.ticked in
    record {
      blocked = d.blocked;
      fresh = d.fresh;
      going = subst (λ (ts : List ℕ). IsGoing script p start base (d.blocked ++ d.fresh) ts y) (sym same) d.going;
      cannot = d.cannot;
      not_pending = d.not_pending;
      before = λ b more. ap (λ (ts : List ℕ). has ts b) same;
      done = λ b less. absurd (omega (arith, less));
    }

pub tick-all : (script : Script) (p start : ℕ) (base : World) (tk : List ℕ) (now a n : ℕ) (y : Progress) → 1 ≤ p → now ≡ (phase_of script p).now → IsTicking script p start base tk a y →
    Leads script (IsTicking script p start base tk (a + n)) y (map (λ a. Tick a now) (filter (λ a. is_up base a && not (has tk a)) (range_with_len a n)))
tick-all script p start base tk now a zero y low clock t =
    let none : a ≡ a + 0 = omega arith in
    leads-none script (IsTicking script p start base tk (a + 0)) y (subst (λ (b : ℕ). IsTicking script p start base tk b y) none t)
tick-all script p start base tk now a (suc n) y low clock t =
    let next : a + 1 + n ≡ a + suc n = omega arith in
    subst (λ (b : ℕ). Leads script (IsTicking script p start base tk b) y (map (λ a. Tick a now) (filter (λ a. is_up base a && not (has tk a)) (range_with_len a (suc n))))) next
    (by-open (is_up base a && not (has tk a)) refl (λ z u. tick-all script p start base tk now (a + 1) n z low clock u))
  where
    After : Progress → Type 0
    After = IsTicking script p start base tk (a + 1 + n)

    rest : List ℕ
    rest = filter (λ a. is_up base a && not (has tk a)) (range_with_len (a + 1) n)

    by-open : (c : Bool) → (is_up base a && not (has tk a)) ≡ c → ((z : Progress) → IsTicking script p start base tk (a + 1) z → Leads script After z (map (λ a. Tick a now) rest)) →
        Leads script After y (map (λ a. Tick a now) (cond c (a ∷ rest) rest))
    by-open false e on =
        on y (record {
          blocked = t.blocked;
          fresh = t.fresh;
          going = t.going;
          cannot = t.cannot;
          not_pending = t.not_pending;
          before = λ b more. t.before b (omega (arith, more));
          done = below-next (λ b. not (is_up base b) || has y.ticked b) a t.done here;
        })
      where
        closed : (u v : Bool) → (u && not v) ≡ false → (not u || v) ≡ true
        closed true true k = refl
        closed true false k = absurd (true-not-false k)
        closed false v k = refl

        here : (not (is_up base a) || has y.ticked a) ≡ true
        here = ap (λ (b : Bool). not (is_up base a) || b) (t.before a (omega arith)) ∙ closed (is_up base a) (has tk a) e
    by-open true e on =
        let q = both (is_up base a) (not (has tk a)) e in
        let d = t.going.doing in
        let new : has y.ticked a ≡ false = t.before a (omega arith) ∙ not-of (has tk a) q.1 in
        let s = tick-next script p start base (t.blocked ++ t.fresh) a now y low clock q.0 new t.going in
        leads-on script After y (Tick a now) (map (λ a. Tick a now) rest) s.0 (on (next_progress script y (Tick a now)) (record {
          blocked = t.blocked;
          fresh = t.fresh;
          going = s.1;
          cannot = blocked-kept y.world (happens y.world (Tick a now)) start start t.blocked (calm-like y.world _ (tick-calm y.world a now)) d.grown (omega arith) t.cannot;
          not_pending = t.not_pending;
          before = λ b more. other b (a == b) refl more ∙ t.before b (omega (arith, more));
          done = ticked-next base y.ticked a t.done;
        }))
      where
        other : (b : ℕ) (s : Bool) → (a == b) ≡ s → a + 1 ≤ b → (s || has y.ticked b) ≡ has y.ticked b
        other b true g more = let same = eq-of a b g in absurd (omega (arith, same, more))
        other b false g more = refl

-- ---- the phase is complete

abbrev waits_not : World → Undelivered → Bool
waits_not w x = not x.pending || not (may_come w (slice_get w.envelopes x.number))

fresh-waits : (w : World) (xs ys : List Undelivered) → list_all is_fresh xs ≡ true → list_all (waits_not w) ys ≡ true → list_all (waits_not w) (xs ++ ys) ≡ true
fresh-waits w [] ys h k = k
fresh-waits w (x ∷ xs) ys h k =
    let p = both (not x.pending) (list_all is_fresh xs) h in
    both-of (waits_not w x) (list_all (waits_not w) (xs ++ ys)) (or-left (not x.pending) _ p.0) (fresh-waits w xs ys p.1 k)

pub ticked-complete : (script : Script) (p start : ℕ) (base : World) (tk : List ℕ) (y : Progress) → IsTicking script p start base tk (0 + length (roles_of base.plan)) y → is_phase_complete y ≡ true
ticked-complete script p start base tk y t =
    let d = t.going.doing in
    let fresh = fresh_from start (length y.world.envelopes - start) in
    let stands : y.waiting ≡ t.blocked ++ (t.fresh ++ fresh) = d.waiting ∙ append_assoc t.blocked t.fresh fresh in
    let delivers : all_delivered y ≡ true =
    subst (λ (ws : List Undelivered). list_all (waits_not y.world) ws ≡ true) (sym stands)
    (blocked-done y.world start t.blocked (t.fresh ++ fresh) t.cannot (fresh-waits y.world t.fresh fresh t.not_pending (fresh-done y.world start (length y.world.envelopes - start)))) in
    is-complete y d.todo (all-tick base y d.like t.done) delivers t.going.met
