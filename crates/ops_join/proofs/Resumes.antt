-- Tuples that pass the test of what a side may hold, and what a join keeps.
use Rattle.std.proofs.Common.{◌≡◌, ℕ, ◌+◌, ◌*◌, ◌<◌, ◌≤◌, true, false, cond, ◌&&◌, List, [], ◌∷◌, refl, arith, nat_lt, nat_le}
use Rattle.std.proofs.lemmas.Grind.{common_steps}
use Rattle.std.proofs.lemmas.Bool.{and_parts}
use Rattle.std.proofs.lemmas.List.Elements.{recursion_from_All}
use Rattle.std.specs.List.{AllByRecursion}
use Rattle.dpc_model.specs.Streams.{NoneBelow, InOrder, time_of}
use Rattle.dpc_model.specs.Fragments.{at_port}
use Rattle.dpc_model.specs.Engines.{LiesBelow}
use Rattle.dpc_model.specs.declared.tuples.Tuple.{Tuple}
use Rattle.dpc_model.specs.declared.tuples.Tagged.{Tagged}
use Rattle.ops_join.specs.Joins.{kept_from, JoinState, JoinAfter}
use Rattle.ops_join.specs.Keeping.{IsKept}
use Rattle.ops_join.specs.Saving.{can_wait, can_wait_from, can_all_wait}

-- ---- tuples that pass

pub wait-below : (w b n : ℕ) (ts : List Tuple) → can_wait_from w b n ts ≡ true → AllByRecursion (λ (t : Tuple). t.stime < b) ts
wait-below w b n [] e = tt
wait-below w b n (t ∷ ts) e =
    let parts = and_parts (nat_le n t.stime && can_wait w b t) (can_wait_from w b t.stime ts) e in
    let here = and_parts (nat_le n t.stime) (can_wait w b t) parts.0 in
    let both = and_parts (nat_lt t.stime b) (nat_le b (t.stime + w)) here.1 in
    (grind (arith, common_steps, both.0), wait-below w b t.stime ts parts.1)

none-below : (m n : ℕ) (ts : List Tuple) → m ≤ n → NoneBelow time_of n ts → NoneBelow time_of m ts
none-below m n [] h s = tt
none-below m n (t ∷ ts) h s = (omega (arith, h, s.0), none-below m n ts h s.1)

-- none is before the first one, and they are in order
wait-order : (w b n : ℕ) (ts : List Tuple) → can_wait_from w b n ts ≡ true → NoneBelow time_of n ts × InOrder ts
wait-order w b n [] e = (tt, tt)
wait-order w b n (t ∷ ts) e =
    let parts = and_parts (nat_le n t.stime && can_wait w b t) (can_wait_from w b t.stime ts) e in
    let here = and_parts (nat_le n t.stime) (can_wait w b t) parts.0 in
    let low : n ≤ t.stime = grind (arith, common_steps, here.0) in
    let rest = wait-order w b t.stime ts parts.1 in
    ((low, none-below n t.stime ts low rest.0), (rest.0, rest.1))

pub IsKept-wait : (w b : ℕ) (ts : List Tuple) → can_all_wait w b ts ≡ true → IsKept b ts
IsKept-wait w b ts e = record { order = (wait-order w b 0 ts e).1; below = wait-below w b 0 ts e }

-- ---- what a join keeps passes

kept-none : (w b n : ℕ) (ts : List Tuple) → NoneBelow time_of n ts → AllByRecursion (λ (t : Tuple). t.stime < b) ts → InOrder ts → can_wait_from w b n (kept_from w b ts) ≡ true
kept-none w b n [] s a o = refl
kept-none w b n (t ∷ ts) s a o =
    (elim (nat_le b (t.stime + w)) as (λ c. nat_le b (t.stime + w) ≡ c → can_wait_from w b n (cond c (t ∷ kept_from w b ts) (kept_from w b ts)) ≡ true) [
      | true ↦ λ e.
          let low : nat_le n t.stime ≡ true = grind (arith, common_steps, s.0) in
          let below : nat_lt t.stime b ≡ true = grind (arith, common_steps, a.0) in
          rw (low, below, e) (kept-none w b t.stime ts o.0 a.1 o.1)
      | false ↦ λ e. kept-none w b n ts s.1 a.1 o.1
    ]) refl

zero-none : (ts : List Tuple) → NoneBelow time_of 0 ts
zero-none [] = tt
zero-none (t ∷ ts) = (omega arith, zero-none ts)

-- tuples in order and below b, as far as they can still meet a partner
pub wait-kept : (w b : ℕ) (ts : List Tuple) → AllByRecursion (λ (t : Tuple). t.stime < b) ts → InOrder ts → can_all_wait w b (kept_from w b ts) ≡ true
wait-kept w b ts a o = kept-none w b 0 ts (zero-none ts) a o

port-below : (b p : ℕ) (xs : List Tagged) → AllByRecursion (LiesBelow b) xs → AllByRecursion (λ (t : Tuple). t.stime < b) (at_port p xs)
port-below b p [] h = tt
port-below b p (x ∷ xs) h = by (port-below b p xs h.1)
  where
    by : AllByRecursion (λ (t : Tuple). t.stime < b) (at_port p xs) → AllByRecursion (λ (t : Tuple). t.stime < b) (at_port p (x ∷ xs))
    by rest = grind (arith, common_steps)

-- of inputs in order at both ports, a join keeps tuples that pass
pub wait-after : (j : JoinState) (xs : List Tagged) (k : ℕ) → JoinAfter j xs k → InOrder (at_port 0 xs) → InOrder (at_port 1 xs) →
    (can_all_wait j.within (j.next * j.width) j.left ≡ true) × (can_all_wait j.within (j.next * j.width) j.right ≡ true)
wait-after j xs k after left right =
    let below = recursion_from_All (LiesBelow (k * j.width)) xs after.below in (
      rw (after.next, after.left) (wait-kept j.within (k * j.width) (at_port 0 xs) (port-below (k * j.width) 0 xs below) left),
      rw (after.next, after.right) (wait-kept j.within (k * j.width) (at_port 1 xs) (port-below (k * j.width) 1 xs below) right),
    )
