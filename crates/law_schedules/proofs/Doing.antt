-- The events of a phase behind its directives: milling, deliveries and ticks.
use Rattle.std.proofs.Common.{◌≡◌, ℕ, zero, suc, ◌+◌, ◌-◌, ◌*◌, ◌/◌, ◌%◌, ◌≤◌, ◌<◌, Bool, true, false, not, cond, ◌&&◌, ◌==◌, nat_lt, nat_le, List, [], ◌∷◌, ◌++◌, length, refl, sym, ap, subst, ◌∙◌, arith}
use Rattle.std.specs.Prelude.{replicate, flat_map}
use Rattle.std.proofs.lemmas.List.Sums.{fold-append}
use Rattle.std.proofs.lemmas.Nat.{div-add-mod'}
use Rattle.std.proofs.Math.Nat.{mod-lt}
use Rattle.dpc_lists.specs.Lists.{range_with_len, is_nil}
use Rattle.dpc_model.specs.declared.messages.Event.{Event}
use Rattle.dpc_model.specs.declared.messages.Event.TheVariants.{Mill}
use Rattle.dpc_model.specs.declared.scripts.Script.{Script}
use Rattle.world_model.specs.Worlds.{World, ready_at, happens}
use Rattle.world_model.specs.Schedules.{Undelivered, Progress, Told, tell, tell_all, next_progress, targets_left, targets_in, newly_sent, may_mill, mill_events}
use Rattle.dpc_lists.proofs.Truths.{both-of, le-test, lt-test, eq-of, eq-test, not-zero, true-not-false}
use Rattle.law_schedules.proofs.Stages.{at, Follows, Reached, follows-next, reached, reached-then}
use Rattle.law_schedules.proofs.Calm.{AreZeroed, IsCalm, IsLike, calm-like, like-then, grown-longer, calm-grown}
use Rattle.law_schedules.proofs.Targets.{AllMet, left-met, mill-at}
use Rattle.law_schedules.proofs.Waits.{fresh_from, fresh-grown}

-- how a run stands behind the directives of a phase that began with so many envelopes
pub record IsDoing (script : Script) (p start : ℕ) (base : World) (ws : List Undelivered) (ts : List ℕ) (y : Progress) : Type 0 where
  pub phase : y.phase ≡ p
  pub todo : y.todo ≡ []
  pub grown : start ≤ length y.world.envelopes
  pub waiting : y.waiting ≡ ws ++ fresh_from start (length y.world.envelopes - start)
  pub ticked : y.ticked ≡ ts
  pub plan : y.world.plan ≡ script.plan
  pub zeroed : AreZeroed y.world.nodes
  pub like : IsLike base y.world

-- ---- a calm event

pub calm-doing : (script : Script) (p start : ℕ) (base : World) (ws xs : List Undelivered) (ts us tk : List ℕ) (y : Progress) (v : World) (mid : List Undelivered) (targets : List (ℕ × ℕ)) → IsDoing script p start base ws ts y → IsCalm y.world v →
    mid ≡ xs ++ fresh_from start (length y.world.envelopes - start) → tk ≡ us →
    IsDoing script p start base xs us (record { world = v; phase = y.phase; todo = y.todo; waiting = mid ++ newly_sent y.world v; ticked = tk; targets = targets })
calm-doing script p start base ws xs ts us tk y v mid targets d c e t =
    let longer = grown-longer y.world v (calm-grown y.world v c) in
    let grown = d.grown in
    record {
      phase = d.phase;
      todo = d.todo;
      grown = omega (arith, longer, grown);
      waiting = ap (λ (l : List Undelivered). l ++ newly_sent y.world v) e ∙ fresh-grown xs start (length y.world.envelopes) (length v.envelopes) grown longer;
      ticked = t;
      plan = c.plan ∙ d.plan;
      zeroed = (calm-grown y.world v c).zeroed d.zeroed;
      like = like-then base y.world v d.like (calm-like y.world v c);
    }

-- no directive was done by it
pub targets-kept : (y : Progress) (a : Bool) (v : World) → y.todo ≡ [] → targets_left v y.targets ≡ cond (not (is_nil y.todo) && is_nil y.todo && a) (targets_in v) (targets_left v y.targets)
targets-kept y a v e = rw e refl

-- the targets are met when the ready buckets are
pub record IsMilling (script : Script) (p start : ℕ) (base : World) (ws : List Undelivered) (y : Progress) : Type 0 where
  pub doing : IsDoing script p start base ws [] y
  pub met : AllMet y.world (ready_at y.world) y.targets

-- they are met
pub record IsGoing (script : Script) (p start : ℕ) (base : World) (ws : List Undelivered) (ts : List ℕ) (y : Progress) : Type 0 where
  pub doing : IsDoing script p start base ws ts y
  pub met : AllMet y.world (λ _. 0) y.targets

pub free : (script : Script) (p start : ℕ) (base : World) (ws : List Undelivered) (ts : List ℕ) (y : Progress) → 1 ≤ p → IsDoing script p start base ws ts y → (nat_lt 0 y.phase && is_nil y.todo) ≡ true
free script p start base ws ts y h d = rw (d.phase, d.todo) (both-of (nat_lt 0 p) true (lt-test 0 p (omega (arith, h))) refl)

-- ---- milling

-- what is ready at the others stays, and of the own so many are left
record IsMillingOf (script : Script) (p start : ℕ) (base : World) (ws : List Undelivered) (a left : ℕ) (w : World) (y : Progress) : Type 0 where
  going : IsMilling script p start base ws y
  own : ready_at y.world a ≡ left
  others : (b : ℕ) → (b ≡ a → ⊥) → ready_at y.world b ≡ ready_at w b

mill-next : (script : Script) (p start : ℕ) (base : World) (ws : List Undelivered) (a r left : ℕ) (w : World) (y : Progress) (es : List Event) → 1 ≤ p → 1 ≤ r → r ≤ 16 → Follows script y es →
    IsMillingOf script p start base ws a (r + left) w y → Follows script (next_progress script y (Mill a r)) (Mill a r ∷ es) × IsMillingOf script p start base ws a left w (next_progress script y (Mill a r))
mill-next script p start base ws a r left w y es low one few f m =
    let d = m.going.doing in
    let own = m.own in
    let can : may_mill y.world a r ≡ true = both-of (nat_le 1 r && nat_le r 16) (nat_le r (ready_at y.world a)) (both-of (nat_le 1 r) (nat_le r 16) (le-test 1 r one) (le-test r 16 few)) (le-test r (ready_at y.world a) (omega (arith, own))) in
    let v = happens y.world (Mill a r) in
    let k = mill-at y.world a r can in
    let left-own = k.own in (
      follows-next script y es (Mill a r) f (both-of (nat_lt 0 y.phase && is_nil y.todo) (may_mill y.world a r) (free script p start base ws [] y low d) can),
      record {
        going = record {
          doing = calm-doing script p start base ws ws [] [] y.ticked y v y.waiting _ d k.calm d.waiting d.ticked;
          met = subst (λ (l : List (ℕ × ℕ)). AllMet v (ready_at v) l) (targets-kept y (y.phase == y.phase) v d.todo)
              (left-met y.world v (ready_at y.world) (ready_at v) (λ b goal up h. k.meets b goal h) y.targets m.going.met);
        };
        own = omega (arith, own, left-own);
        others = λ b h. k.others b h ∙ m.others b h;
      },
    )

-- 16 at a time
mills-many : (script : Script) (p start : ℕ) (base : World) (ws : List Undelivered) (a k left : ℕ) (w : World) (y : Progress) (es : List Event) → 1 ≤ p → Follows script y es → IsMillingOf script p start base ws a (k * 16 + left) w y →
    Reached script (IsMillingOf script p start base ws a left w) (tell_all (at y es) (replicate k (Mill a 16)))
mills-many script p start base ws a zero left w y es low f m =
    let none : zero * 16 + left ≡ left = omega arith in
    reached script (IsMillingOf script p start base ws a left w) y es f (subst (λ (n : ℕ). IsMillingOf script p start base ws a n w y) none m)
mills-many script p start base ws a (suc k) left w y es low f m =
    let next : suc k * 16 + left ≡ 16 + (k * 16 + left) = omega arith in
    let s = mill-next script p start base ws a 16 (k * 16 + left) w y es low (omega arith) (omega arith) f (subst (λ (n : ℕ). IsMillingOf script p start base ws a n w y) next m) in
    mills-many script p start base ws a k left w (next_progress script y (Mill a 16)) (Mill a 16 ∷ es) low s.0 s.1

pub tell-append : (x : Told) (es fs : List Event) → tell_all x (es ++ fs) ≡ tell_all (tell_all x es) fs
tell-append x es fs = fold-append tell x es fs

parts : (r : ℕ) → r ≡ (r / 16) * 16 + r % 16
parts r = sym (div-add-mod' r 16)

rest-few : (r : ℕ) → r % 16 < 16
rest-few r = mod-lt r (omega arith)

mills-of : (script : Script) (p start : ℕ) (base : World) (ws : List Undelivered) (a r : ℕ) (w : World) (y : Progress) (es : List Event) → 1 ≤ p → Follows script y es → IsMillingOf script p start base ws a r w y →
    Reached script (IsMillingOf script p start base ws a 0 w) (tell_all (at y es) (mill_events a r))
mills-of script p start base ws a r w y es low f m =
    let last = cond (r % 16 == 0) [] (Mill a (r % 16) ∷ []) in
    let many = mills-many script p start base ws a (r / 16) (r % 16) w y es low f (subst (λ (n : ℕ). IsMillingOf script p start base ws a n w y) (parts r) m) in
    subst (λ (x : Told). Reached script (IsMillingOf script p start base ws a 0 w) x) (sym (tell-append (at y es) (replicate (r / 16) (Mill a 16)) last))
    (reached-then script (IsMillingOf script p start base ws a (r % 16) w) (IsMillingOf script p start base ws a 0 w) (λ x. tell_all x last) (tell_all (at y es) (replicate (r / 16) (Mill a 16))) many by-last)
  where
    by-last : (z : Progress) (fs : List Event) → Follows script z fs → IsMillingOf script p start base ws a (r % 16) w z →
        Reached script (IsMillingOf script p start base ws a 0 w) (tell_all (at z fs) (cond (r % 16 == 0) [] (Mill a (r % 16) ∷ [])))
    by-last z fs g k =
        (elim (r % 16 == 0) as (λ b. (r % 16 == 0) ≡ b → Reached script (IsMillingOf script p start base ws a 0 w) (tell_all (at z fs) (cond b [] (Mill a (r % 16) ∷ [])))) [
          | true ↦ λ e. reached script (IsMillingOf script p start base ws a 0 w) z fs g (subst (λ (n : ℕ). IsMillingOf script p start base ws a n w z) (eq-of (r % 16) 0 e) k)
          | false ↦ λ e.
              let few = rest-few r in
              let some : 1 ≤ r % 16 = not-zero (r % 16) e in
              let whole : r % 16 ≡ r % 16 + 0 = omega arith in
              let s = mill-next script p start base ws a (r % 16) 0 w z fs low some (omega (arith, few)) g (subst (λ (n : ℕ). IsMillingOf script p start base ws a n w z) whole k) in
              reached script (IsMillingOf script p start base ws a 0 w) (next_progress script z (Mill a (r % 16))) (Mill a (r % 16) ∷ fs) s.0 s.1
        ]) refl

-- all nodes, from actor number a on
pub record IsMilledUpto (script : Script) (p start : ℕ) (base : World) (ws : List Undelivered) (a : ℕ) (w : World) (y : Progress) : Type 0 where
  pub going : IsMilling script p start base ws y
  pub below : (b : ℕ) → b < a → ready_at y.world b ≡ 0
  pub past : (b : ℕ) → a ≤ b → ready_at y.world b ≡ ready_at w b

pub mills-all : (script : Script) (p start : ℕ) (base : World) (ws : List Undelivered) (a n : ℕ) (w : World) (y : Progress) (es : List Event) → 1 ≤ p → Follows script y es → IsMilledUpto script p start base ws a w y →
    Reached script (IsMilledUpto script p start base ws (a + n) w) (tell_all (at y es) (flat_map (λ a. mill_events a (ready_at w a)) (range_with_len a n)))
mills-all script p start base ws a zero w y es low f m =
    let none : a ≡ a + 0 = omega arith in
    reached script (IsMilledUpto script p start base ws (a + 0) w) y es f (subst (λ (c : ℕ). IsMilledUpto script p start base ws c w y) none m)
mills-all script p start base ws a (suc n) w y es low f m =
    let rest = flat_map (λ a. mill_events a (ready_at w a)) (range_with_len (a + 1) n) in
    let next : a + 1 + n ≡ a + suc n = omega arith in
    let one = mills-of script p start base ws a (ready_at w a) y.world y es low f (record { going = m.going; own = m.past a (omega arith); others = λ b h. refl }) in
    subst (λ (x : Told). Reached script (IsMilledUpto script p start base ws (a + suc n) w) x) (sym (tell-append (at y es) (mill_events a (ready_at w a)) rest))
    (reached-then script (IsMillingOf script p start base ws a 0 y.world) (IsMilledUpto script p start base ws (a + suc n) w) (λ x. tell_all x rest) (tell_all (at y es) (mill_events a (ready_at w a))) one
    (λ z fs g k. subst (λ (c : ℕ). Reached script (IsMilledUpto script p start base ws c w) (tell_all (at z fs) rest)) next
    (mills-all script p start base ws (a + 1) n w z fs low g (record {
      going = k.going;
      below = λ b h. by-own b h k (b == a) refl;
      past = λ b h. k.others b (λ same. absurd (omega (arith, same, h))) ∙ m.past b (omega (arith, h));
    }))))
  where
    by-own : {z : Progress} (b : ℕ) → b < a + 1 → IsMillingOf script p start base ws a 0 y.world z → (t : Bool) → (b == a) ≡ t → ready_at z.world b ≡ 0
    by-own b h k true e = let same = eq-of b a e in rw same k.own
    by-own b h k false e =
        let other : b ≡ a → ⊥ = λ same. true-not-false (sym (eq-test b a same) ∙ e) in
        k.others b other ∙ m.below b (less b h other)
      where
        less : (b : ℕ) → b < a + 1 → (b ≡ a → ⊥) → b < a
        less b h other = omega (arith, h, other)
