-- The pending envelopes are delivered in order of number, and the actors tick.
use Rattle.std.proofs.Common.{◌≡◌, ℕ, zero, suc, ◌+◌, ◌-◌, ◌≤◌, ◌<◌, Bool, true, false, not, cond, ◌&&◌, ◌||◌, ◌==◌, nat_lt, List, [], ◌∷◌, ◌++◌, map, length, refl, sym, ap, subst, ◌∙◌, arith, append_assoc, Option, slice_get, ◌⊎◌, inl, inr}
use Rattle.std.specs.Prelude.{replicate, flat_map}
use Rattle.std.specs.List.{filter}
use Rattle.std.proofs.lemmas.List.{append-nil}
use Rattle.std.proofs.Math.Bool.{or-true}
use Rattle.dpc_lists.specs.Lists.{list_all, list_any, range_with_len, is_nil, has}
use Rattle.dpc_model.specs.declared.messages.Event.{Event}
use Rattle.dpc_model.specs.declared.messages.Event.TheVariants.{Deliver, Tick}
use Rattle.dpc_model.specs.declared.scripts.Directive.{Directive}
use Rattle.dpc_model.specs.declared.scripts.Script.{Script}
use Rattle.world_model.specs.Worlds.{World, Envelope, is_up, happens}
use Rattle.world_model.specs.Schedules.{Undelivered, Progress, Told, tell_all, next_progress, may_follow, delivery_made, may_come, may_deliver, is_first_of_its_way, deliveries_of, now_of, phase_of, pending_in, loses, repeats}
use Rattle.dpc_lists.proofs.Truths.{both-of, all-append, lt-test, eq-of, eq-test, true-not-false}
use Rattle.law_schedules.proofs.Stages.{at, Follows, Reached, follows-next, reached, reached-then}
use Rattle.law_schedules.proofs.Calm.{IsLike, like-itself, calm-like, deliver-calm, tick-calm}
use Rattle.law_schedules.proofs.Targets.{AllMet, left-met, calm-meets}
use Rattle.law_schedules.proofs.Waits.{fresh_from, is_blocked, blocked-kept, come-kept, pend, first-way, made-once, made-twice}
use Rattle.law_schedules.proofs.Doing.{IsGoing, calm-doing, targets-kept, free, tell-append}

-- ---- one delivery

pub deliver-next : (script : Script) (p start : ℕ) (base : World) (xs zs ws : List Undelivered) (k l : ℕ) (ts : List ℕ) (y : Progress) → 1 ≤ p → IsGoing script p start base (xs ++ pend k l ∷ zs) ts y →
    may_come y.world (slice_get y.world.envelopes k) ≡ true → list_all (is_blocked y.world k) xs ≡ true →
    ((fs : List Undelivered) → delivery_made k (xs ++ pend k l ∷ (zs ++ fs)) ≡ ws ++ fs) →
    (may_follow script y (Deliver k) ≡ true) × IsGoing script p start base ws ts (next_progress script y (Deliver k))
deliver-next script p start base xs zs ws k l ts y low g come blocked made =
    let d = g.doing in
    let v = happens y.world (Deliver k) in
    let c = deliver-calm y.world k in
    let fresh = fresh_from start (length y.world.envelopes - start) in
    let stands : y.waiting ≡ xs ++ pend k l ∷ (zs ++ fresh) = d.waiting ∙ append_assoc xs (pend k l ∷ zs) fresh in
    let first : is_first_of_its_way y.world k y.waiting ≡ true = subst (λ (ys : List Undelivered). is_first_of_its_way y.world k ys ≡ true) (sym stands) (first-way y.world k l xs (zs ++ fresh) come blocked) in (
      both-of (nat_lt 0 y.phase && is_nil y.todo) (may_deliver y k) (free script p start base (xs ++ pend k l ∷ zs) ts y low d)
          (both-of (may_come y.world (slice_get y.world.envelopes k)) (is_first_of_its_way y.world k y.waiting) come first),
      record {
        doing = calm-doing script p start base (xs ++ pend k l ∷ zs) ws ts ts y.ticked y v (delivery_made k y.waiting) _ d c (ap (λ (ys : List Undelivered). delivery_made k ys) stands ∙ made fresh) d.ticked;
        met = subst (λ (goals : List (ℕ × ℕ)). AllMet v (λ _. 0) goals) (targets-kept y (y.phase == y.phase) v d.todo)
            (left-met y.world v (λ _. 0) (λ _. 0) (calm-meets y.world v d.zeroed c) y.targets g.met);
      },
    )

-- ---- all

-- those that cannot come, and behind them the pending ones from number k on
pub record IsDelivering (script : Script) (p start : ℕ) (base : World) (xs zs : List Undelivered) (k : ℕ) (y : Progress) : Type 0 where
  pub going : IsGoing script p start base (xs ++ zs) [] y
  pub blocked : list_all (is_blocked y.world k) xs ≡ true

-- those that were not delivered cannot come
pub record IsDelivered (script : Script) (p start : ℕ) (base : World) (y : Progress) : Type 0 where
  pub others : List Undelivered
  pub going : IsGoing script p start base others [] y
  pub blocked : list_all (is_blocked y.world start) others ≡ true

-- the directives' world has the envelopes of the one before
delivered-times : (script : Script) (p start : ℕ) (base : World) (xs zs : List Undelivered) (k times : ℕ) (y : Progress) (es : List Event) → 1 ≤ p → k < start → Follows script y es → IsGoing script p start base (xs ++ pend k times ∷ zs) [] y →
    may_come base (slice_get base.envelopes k) ≡ true → start ≤ length base.envelopes → list_all (is_blocked y.world k) xs ≡ true → (times ≡ 1) ⊎ (times ≡ 2) →
    Reached script (IsDelivering script p start base xs zs (k + 1)) (tell_all (at y es) (replicate times (Deliver k)))
delivered-times script p start base xs zs k times y es low small f g come room blocked which =
    elim which [
      | inl one ↦ subst (λ (n : ℕ). Reached script (IsDelivering script p start base xs zs (k + 1)) (tell_all (at y es) (replicate n (Deliver k)))) (sym one)
          (once y es f (subst (λ (n : ℕ). IsGoing script p start base (xs ++ pend k n ∷ zs) [] y) one g) blocked)
      | inr two ↦ subst (λ (n : ℕ). Reached script (IsDelivering script p start base xs zs (k + 1)) (tell_all (at y es) (replicate n (Deliver k)))) (sym two)
          (twice y es f (subst (λ (n : ℕ). IsGoing script p start base (xs ++ pend k n ∷ zs) [] y) two g) blocked)
    ]
  where
    comes-here : (z : Progress) → IsLike base z.world → may_come z.world (slice_get z.world.envelopes k) ≡ true
    comes-here z like = come-kept base z.world k like (omega (arith, small, room)) ∙ come

    still-blocked : (z : Progress) (l : ℕ) → k ≤ l → start ≤ length z.world.envelopes → list_all (is_blocked z.world k) xs ≡ true → list_all (is_blocked (happens z.world (Deliver k)) l) xs ≡ true
    still-blocked z l more grown h = blocked-kept z.world (happens z.world (Deliver k)) k l xs (calm-like z.world _ (deliver-calm z.world k)) (omega (arith, small, grown)) more h

    once : (z : Progress) (fs : List Event) → Follows script z fs → IsGoing script p start base (xs ++ pend k 1 ∷ zs) [] z → list_all (is_blocked z.world k) xs ≡ true →
        Reached script (IsDelivering script p start base xs zs (k + 1)) (tell_all (at z fs) (Deliver k ∷ []))
    once z fs h i b =
        let s = deliver-next script p start base xs zs (xs ++ zs) k 1 [] z low i (comes-here z i.doing.like) b (λ gs. made-once z.world k xs (zs ++ gs) b ∙ sym (append_assoc xs zs gs)) in
        reached script (IsDelivering script p start base xs zs (k + 1)) (next_progress script z (Deliver k)) (Deliver k ∷ fs) (follows-next script z fs (Deliver k) h s.0) (record { going = s.1; blocked = still-blocked z (k + 1) (omega arith) i.doing.grown b })

    twice : (z : Progress) (fs : List Event) → Follows script z fs → IsGoing script p start base (xs ++ pend k 2 ∷ zs) [] z → list_all (is_blocked z.world k) xs ≡ true →
        Reached script (IsDelivering script p start base xs zs (k + 1)) (tell_all (at z fs) (Deliver k ∷ Deliver k ∷ []))
    twice z fs h i b =
        let s = deliver-next script p start base xs zs (xs ++ pend k 1 ∷ zs) k 2 [] z low i (comes-here z i.doing.like) b (λ gs. made-twice z.world k xs (zs ++ gs) b ∙ sym (append_assoc xs (pend k 1 ∷ zs) gs)) in
        once (next_progress script z (Deliver k)) (Deliver k ∷ fs) (follows-next script z fs (Deliver k) h s.0) s.1 (still-blocked z k (omega arith) i.doing.grown b)

pub deliver-all : (script : Script) (p start : ℕ) (old base : World) (ds : List Directive) (xs : List Undelivered) (k n : ℕ) (y : Progress) (es : List Event) → 1 ≤ p → k + n ≡ start → start ≤ length base.envelopes →
    ((i : ℕ) → i < start → slice_get base.envelopes i ≡ slice_get old.envelopes i) →
    Follows script y es → IsDelivering script p start base xs (pending_in old ds (fresh_from k n)) k y →
    Reached script (IsDelivered script p start base) (tell_all (at y es) (flat_map (λ k. replicate (deliveries_of base ds k) (Deliver k)) (range_with_len k n)))
deliver-all script p start old base ds xs k zero y es low all room same f d =
    let none : k ≡ start = omega (arith, all) in
    reached script (IsDelivered script p start base) y es f
    (record { others = xs ++ []; going = d.going; blocked = subst (λ (ys : List Undelivered). list_all (is_blocked y.world start) ys ≡ true) (sym (append-nil xs)) (subst (λ (i : ℕ). list_all (is_blocked y.world i) xs ≡ true) none d.blocked) })
deliver-all script p start old base ds xs k (suc n) y es low all room same f d =
    subst (λ (x : Told). Reached script (IsDelivered script p start base) x) (sym (tell-append (at y es) (replicate (deliveries_of base ds k) (Deliver k)) rest))
    (by-lost (list_any (loses (slice_get base.envelopes k)) ds) (may_come base (slice_get base.envelopes k)) refl refl
    (λ ys z fs g c. deliver-all script p start old base ds ys (k + 1) n z fs low (omega (arith, all)) room same g c))
  where
    zs : List Undelivered
    zs = pending_in old ds (fresh_from (k + 1) n)

    rest : List Event
    rest = flat_map (λ k. replicate (deliveries_of base ds k) (Deliver k)) (range_with_len (k + 1) n)

    times : ℕ
    times = cond (list_any (repeats (slice_get base.envelopes k)) ds) 2 1

    here : slice_get old.envelopes k ≡ slice_get base.envelopes k
    here = sym (same k (omega (arith, all)))

    waits-lost : list_any (loses (slice_get base.envelopes k)) ds ≡ true → pending_in old ds (fresh_from k (suc n)) ≡ zs
    waits-lost e = let lost = ap (λ (o : Option Envelope). list_any (loses o) ds) here ∙ e in rw lost refl

    waits-kept : list_any (loses (slice_get base.envelopes k)) ds ≡ false → pending_in old ds (fresh_from k (suc n)) ≡ pend k times ∷ zs
    waits-kept e = let kept = ap (λ (o : Option Envelope). list_any (loses o) ds) here ∙ e in rw kept (rw here refl)

    blocked-on : list_all (is_blocked y.world (k + 1)) xs ≡ true
    blocked-on = let grown = d.going.doing.grown in blocked-kept y.world y.world k (k + 1) xs (like-itself y.world) (omega (arith, all, grown)) (omega arith) d.blocked

    Next : Type 0
    Next = (ys : List Undelivered) (z : Progress) (fs : List Event) → Follows script z fs → IsDelivering script p start base ys zs (k + 1) z → Reached script (IsDelivered script p start base) (tell_all (at z fs) rest)

    by-lost : (a b : Bool) → list_any (loses (slice_get base.envelopes k)) ds ≡ a → may_come base (slice_get base.envelopes k) ≡ b → Next →
        Reached script (IsDelivered script p start base) (tell_all (tell_all (at y es) (replicate (deliveries_of base ds k) (Deliver k))) rest)
    by-lost true b e g next =
        let none : deliveries_of base ds k ≡ 0 = rw e refl in
        subst (λ (i : ℕ). Reached script (IsDelivered script p start base) (tell_all (tell_all (at y es) (replicate i (Deliver k))) rest)) (sym none)
        (next xs y es f (record { going = subst (λ (ys : List Undelivered). IsGoing script p start base (xs ++ ys) [] y) (waits-lost e) d.going; blocked = blocked-on }))
    by-lost false false e g next =
        let none : deliveries_of base ds k ≡ 0 = rw (e, g) refl in
        let there : IsGoing script p start base (xs ++ pend k times ∷ zs) [] y = subst (λ (ys : List Undelivered). IsGoing script p start base (xs ++ ys) [] y) (waits-kept e) d.going in
        let stuck : may_come y.world (slice_get y.world.envelopes k) ≡ false = come-kept base y.world k there.doing.like (omega (arith, all, room)) ∙ g in
        subst (λ (i : ℕ). Reached script (IsDelivered script p start base) (tell_all (tell_all (at y es) (replicate i (Deliver k))) rest)) (sym none)
        (next (xs ++ pend k times ∷ []) y es f (record {
          going = subst (λ (ys : List Undelivered). IsGoing script p start base ys [] y) (sym (append_assoc xs (pend k times ∷ []) zs)) there;
          blocked = all-append (is_blocked y.world (k + 1)) xs (pend k times ∷ []) blocked-on
              (both-of (is_blocked y.world (k + 1) (pend k times)) true
              (both-of (true && nat_lt k (k + 1)) (not (may_come y.world (slice_get y.world.envelopes k))) (lt-test k (k + 1) (omega arith)) (rw stuck refl)) refl);
        }))
    by-lost false true e g next =
        let some : deliveries_of base ds k ≡ times = rw (e, g) refl in
        let there : IsGoing script p start base (xs ++ pend k times ∷ zs) [] y = subst (λ (ys : List Undelivered). IsGoing script p start base (xs ++ ys) [] y) (waits-kept e) d.going in
        subst (λ (i : ℕ). Reached script (IsDelivered script p start base) (tell_all (tell_all (at y es) (replicate i (Deliver k))) rest)) (sym some)
        (reached-then script (IsDelivering script p start base xs zs (k + 1)) (IsDelivered script p start base) (λ x. tell_all x rest) (tell_all (at y es) (replicate times (Deliver k)))
        (delivered-times script p start base xs zs k times y es low (omega (arith, all)) f there g room d.blocked (one-or-two (list_any (repeats (slice_get base.envelopes k)) ds)))
        (λ z fs h c. next xs z fs h c))
      where
        one-or-two : (b : Bool) → (◌≡◌ {A = ℕ} (cond b 2 1) 1) ⊎ (◌≡◌ {A = ℕ} (cond b 2 1) 2)
        one-or-two true = inr refl
        one-or-two false = inl refl

-- ---- ticks

-- a tick of an actor that is up and has not ticked yet
pub tick-next : (script : Script) (p start : ℕ) (base : World) (ws : List Undelivered) (a now : ℕ) (y : Progress) → 1 ≤ p → now ≡ (phase_of script p).now → is_up base a ≡ true → has y.ticked a ≡ false →
    IsGoing script p start base ws y.ticked y → (may_follow script y (Tick a now) ≡ true) × IsGoing script p start base ws (a ∷ y.ticked) (next_progress script y (Tick a now))
tick-next script p start base ws a now y low clock up new g =
    let d = g.doing in
    let v = happens y.world (Tick a now) in
    let c = tick-calm y.world a now in
    let here : now ≡ now_of script y = clock ∙ sym (ap (λ (i : ℕ). (phase_of script i).now) d.phase) in (
      both-of (nat_lt 0 y.phase && is_nil y.todo && is_up y.world a && not (has y.ticked a)) (now == now_of script y)
          (both-of (nat_lt 0 y.phase && is_nil y.todo && is_up y.world a) (not (has y.ticked a))
          (both-of (nat_lt 0 y.phase && is_nil y.todo) (is_up y.world a) (free script p start base ws y.ticked y low d) (d.like.up a ∙ up)) (rw new refl)) (eq-test now (now_of script y) here),
      record {
        doing = calm-doing script p start base ws ws y.ticked (a ∷ y.ticked) (a ∷ y.ticked) y v y.waiting _ d c d.waiting refl;
        met = subst (λ (goals : List (ℕ × ℕ)). AllMet v (λ _. 0) goals) (targets-kept y (y.phase == y.phase) v d.todo)
            (left-met y.world v (λ _. 0) (λ _. 0) (calm-meets y.world v d.zeroed c) y.targets g.met);
      },
    )

-- one number more
pub below-next : (test : ℕ → Bool) (a : ℕ) → ((b : ℕ) → b < a → test b ≡ true) → test a ≡ true → (b : ℕ) → b < a + 1 → test b ≡ true
below-next test a below here b less = by-own (b == a) refl
  where
    lower : (b ≡ a → ⊥) → b < a
    lower other = omega (arith, less, other)

    by-own : (c : Bool) → (b == a) ≡ c → test b ≡ true
    by-own true e = subst (λ (i : ℕ). test i ≡ true) (sym (eq-of b a e)) here
    by-own false e = below b (lower (λ same. true-not-false (sym (eq-test b a same) ∙ e)))

-- with the tick of a, all below a + 1 that are up have ticked
pub ticked-next : (base : World) (ticked : List ℕ) (a : ℕ) → ((b : ℕ) → b < a → (not (is_up base b) || has ticked b) ≡ true) → (b : ℕ) → b < a + 1 → (not (is_up base b) || has (a ∷ ticked) b) ≡ true
ticked-next base ticked a done = below-next (λ b. not (is_up base b) || has (a ∷ ticked) b) a (λ b less. earlier (not (is_up base b)) (a == b) (has ticked b) (done b less)) here
  where
    earlier : (x s h : Bool) → (x || h) ≡ true → (x || (s || h)) ≡ true
    earlier true s h k = refl
    earlier false true h k = refl
    earlier false false h k = k

    here : (not (is_up base a) || has (a ∷ ticked) a) ≡ true
    here = let same = eq-test a a refl in rw same (or-true (not (is_up base a)))

-- the actors below number a have ticked where they are up
pub record IsTicking (script : Script) (p start : ℕ) (base : World) (a : ℕ) (y : Progress) : Type 0 where
  pub others : List Undelivered
  pub going : IsGoing script p start base others y.ticked y
  pub blocked : list_all (is_blocked y.world start) others ≡ true
  pub seen : (b : ℕ) → has y.ticked b ≡ true → b < a
  pub done : (b : ℕ) → b < a → (not (is_up base b) || has y.ticked b) ≡ true

pub tick-all : (script : Script) (p start : ℕ) (base : World) (now a n : ℕ) (y : Progress) (es : List Event) → 1 ≤ p → now ≡ (phase_of script p).now → Follows script y es → IsTicking script p start base a y →
    Reached script (IsTicking script p start base (a + n)) (tell_all (at y es) (map (λ a. Tick a now) (filter (is_up base) (range_with_len a n))))
tick-all script p start base now a zero y es low clock f t =
    let none : a ≡ a + 0 = omega arith in
    reached script (IsTicking script p start base (a + 0)) y es f (subst (λ (b : ℕ). IsTicking script p start base b y) none t)
tick-all script p start base now a (suc n) y es low clock f t =
    let next : a + 1 + n ≡ a + suc n = omega arith in
    subst (λ (b : ℕ). Reached script (IsTicking script p start base b) (tell_all (at y es) (map (λ a. Tick a now) (filter (is_up base) (range_with_len a (suc n)))))) next
    (by-up (is_up base a) refl (λ z fs g u. tick-all script p start base now (a + 1) n z fs low clock g u))
  where
    by-up : (c : Bool) → is_up base a ≡ c → ((z : Progress) (fs : List Event) → Follows script z fs → IsTicking script p start base (a + 1) z →
        Reached script (IsTicking script p start base (a + 1 + n)) (tell_all (at z fs) (map (λ a. Tick a now) (filter (is_up base) (range_with_len (a + 1) n))))) →
        Reached script (IsTicking script p start base (a + 1 + n)) (tell_all (at y es) (map (λ a. Tick a now) (cond c (a ∷ filter (is_up base) (range_with_len (a + 1) n)) (filter (is_up base) (range_with_len (a + 1) n)))))
    by-up false e then_on =
        then_on y es f (record {
          others = t.others;
          going = t.going;
          blocked = t.blocked;
          seen = λ b h. let less = t.seen b h in omega (arith, less);
          done = below-next (λ b. not (is_up base b) || has y.ticked b) a t.done (rw e refl);
        })
    by-up true e then_on =
        let d = t.going.doing in
        let s = tick-next script p start base t.others a now y low clock e (not-seen (has y.ticked a) refl) t.going in
        then_on (next_progress script y (Tick a now)) (Tick a now ∷ es) (follows-next script y es (Tick a now) f s.0) (record {
          others = t.others;
          going = s.1;
          blocked = blocked-kept y.world (happens y.world (Tick a now)) start start t.others (calm-like y.world _ (tick-calm y.world a now)) d.grown (omega arith) t.blocked;
          seen = λ b h. seen-now b (a == b) refl h;
          done = ticked-next base y.ticked a t.done;
        })
      where
        not-seen : (b : Bool) → has y.ticked a ≡ b → b ≡ false
        not-seen true h = let less = t.seen a h in absurd (omega (arith, less))
        not-seen false h = refl

        seen-now : (b : ℕ) (s : Bool) → (a == b) ≡ s → (s || has y.ticked b) ≡ true → b < a + 1
        seen-now b true g h = let same = eq-of a b g in omega (arith, same)
        seen-now b false g h = let less = t.seen b h in omega (arith, less)
