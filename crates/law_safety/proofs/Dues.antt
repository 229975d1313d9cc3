-- After a tick has processed its buckets none is due.
use Rattle.std.proofs.Common.{◌≡◌, ℕ, zero, suc, ◌+◌, ◌-◌, ◌*◌, ◌<◌, ◌≤◌, Bool, true, false, not, cond, ◌&&◌, ◌||◌, ◌==◌, nat_le, List, [], ◌∷◌, ◌++◌, map, length, refl, ap, ◌∙◌, arith, length-append, ◌⊎◌, inl, inr, Option, Some, None}
use Rattle.std.proofs.lemmas.Grind.{common_steps}
use Rattle.std.proofs.lemmas.List.{length-map}
use Rattle.std.proofs.lemmas.List.FromFn.{length-range_with_len}
use Rattle.std.specs.List.{filter}
use Rattle.dpc_lists.specs.Lists.{list_all, last_below, is_nil, range_with_len}
use Rattle.dpc_model.specs.Reading.{Reader}
use Rattle.dpc_model.specs.Due.{Stamps, stamp_of, DueInputs, is_overdue, is_reached, is_complete, reach, waited_long}
use Rattle.dpc_model.specs.declared.tuples.Tagged.{Tagged}
use Rattle.node_model.specs.Nodes.{Home, PlainNode, held_by, node_frontier, buckets_of, due_inputs, due_at, complete_upto, complete_buckets, bucket_of}
use Rattle.node_model.specs.NodeSteps.{stably, after_stable_buckets, with_closed, with_failure, processing_upto}
use Rattle.world_model.specs.Safe.{EachReaches}
use Rattle.law_safety.specs.Plans.{IsPlace}
use Rattle.dpc_lists.proofs.Truths.{both, le-of, le-test}
use Rattle.dpc_lists.proofs.Places.{last-none}
use Rattle.law_safety.proofs.Processing.{least-reached}

-- ---- the last number that passes a test

-- it passes, and none behind it does
pub record IsLast (test : ℕ → Bool) (n last : ℕ) : Type 0 where
  pub below : last < n
  pub passes : test last ≡ true
  pub behind : (k : ℕ) → last < k → k < n → test k ≡ false

pub last_below-last : (test : ℕ → Bool) (n last : ℕ) → last_below test n ≡ Some last → IsLast test n last
last_below-last test zero last e = cc
last_below-last test (suc m) last e =
    (elim (test m) as (λ b. test m ≡ b → cond b (Some m) (last_below test m) ≡ Some last → IsLast test (suc m) last) [
      | true ↦ λ f g.
          let same : last ≡ m = cc in
          record { below = omega arith; passes = rw same f; behind = λ k l h. absurd (omega arith) }
      | false ↦ λ f g.
          let rest = last_below-last test m last g in
          let low = rest.below in
          record {
            below = omega arith;
            passes = rest.passes;
            behind = λ k l h. (elim (k == m) as (λ b. (k == m) ≡ b → test k ≡ false) [
              | true ↦ λ s. let same : k ≡ m = grind (arith, common_steps) in rw same f
              | false ↦ λ s. let less : k < m = grind (arith, common_steps) in rest.behind k l less
            ]) refl;
          }
    ]) refl e

-- ---- stamps that stay

pub stamp-kept : (c k : ℕ) (stamps : Stamps) → c ≤ k → stamp_of (filter (λ (s : ℕ × ℕ). nat_le c s.0) stamps) k ≡ stamp_of stamps k
stamp-kept c k [] h = refl
stamp-kept c k (s ∷ stamps) h =
    (elim (nat_le c s.0) as (λ b. nat_le c s.0 ≡ b → stamp_of (cond b (s ∷ filter (λ (s : ℕ × ℕ). nat_le c s.0) stamps) (filter (λ (s : ℕ × ℕ). nat_le c s.0) stamps)) k ≡ cond (s.0 == k) (Some s.1) (stamp_of stamps k)) [
      | true ↦ λ e. ap (λ (o : Option ℕ). cond (s.0 == k) (Some s.1) o) (stamp-kept c k stamps h)
      | false ↦ λ e. let other : (s.0 == k) ≡ false = grind (arith, common_steps) in rw other (stamp-kept c k stamps h)
    ]) refl

-- ---- buckets behind the last due one

-- the frontier has moved past these
not-due-before : (w : DueInputs) (now k : ℕ) → k < w.frontier → (is_overdue w now k || is_reached w k) ≡ false
not-due-before w now k h = let out : nat_le w.frontier k ≡ false = grind (arith, common_steps) in
    rw out (passing-off w.passing (list_all (λ (r : Reader). nat_le ((k + 1) * w.width) (reach r)) w.ports) (w.any_closed || not (is_complete w.width w.ports k)))
  where
    passing-off : (b x y : Bool) → (b && false && x && y) ≡ false
    passing-off true x y = refl
    passing-off false x y = refl

-- the tests of a bucket by their parts: v tells that it is at or past the frontier
abbrev due_by : Bool → Bool → Bool → Bool → Bool → Bool → Bool
due_by v waited passing reached any complete = (v && waited) || (passing && v && reached && (any || not complete))

none-due : (v waited passing reached any any' complete : Bool) → due_by true waited passing reached any complete ≡ false →
    (any ≡ true) ⊎ ((any' ≡ false) ⊎ (complete ≡ false)) → due_by v waited passing reached any' complete ≡ false
none-due false waited true reached any any' complete e h = refl
none-due false waited false reached any any' complete e h = refl
none-due true true passing reached any any' complete e h = cc
none-due true false false reached any any' complete e h = refl
none-due true false true false any any' complete e h = refl
none-due true false true true true any' complete e h = cc
none-due true false true true false true true e (inl f) = cc
none-due true false true true false true true e (inr (inl f)) = cc
none-due true false true true false true true e (inr (inr f)) = cc
none-due true false true true false true false e h = cc
none-due true false true true false false true e h = refl
none-due true false true true false false false e h = cc

-- a bucket that was not due and comes behind the frontier
later-none : (home : Home) (n m : PlainNode) (now k : ℕ) → held_by m ≡ held_by n → stamp_of m.stamps k ≡ stamp_of n.stamps k → node_frontier n ≤ k →
    (not (is_nil n.closed) ≡ true) ⊎ ((not (is_nil m.closed) ≡ false) ⊎ (is_complete home.plan.width (held_by n) k ≡ false)) →
    (is_overdue (due_inputs home n) now k || is_reached (due_inputs home n) k) ≡ false → (is_overdue (due_inputs home m) now k || is_reached (due_inputs home m) k) ≡ false
later-none home n m now k held stamp low cases e =
    let here : nat_le (node_frontier n) k ≡ true = le-test (node_frontier n) k low in
    let w = due_inputs home n in
    rw (held, stamp)
    (none-due (nat_le (node_frontier m) k) (waited_long (stamp_of n.stamps k) w.delay now) w.passing (list_all (λ (r : Reader). nat_le ((k + 1) * w.width) (reach r)) (held_by n))
    (not (is_nil n.closed)) (not (is_nil m.closed)) (is_complete home.plan.width (held_by n) k) (rw here at e) cases)

-- ---- complete buckets

pub complete-reach : (width k : ℕ) (rs : List Reader) → is_complete width rs k ≡ true → EachReaches ((k + 1) * width) rs
complete-reach width k [] e = tt
complete-reach width k (r ∷ rs) e =
    let p = both (nat_le ((k + 1) * width) r.bound) (is_complete width rs k) e in (le-of ((k + 1) * width) r.bound p.0, complete-reach width k rs p.1)

-- a bucket past those that are complete is not
pub incomplete : (home : Home) (n : PlainNode) (k : ℕ) → IsPlace home → 0 < length (held_by n) → complete_upto home n ≤ k → is_complete home.plan.width (held_by n) k ≡ false
incomplete home n k place some h =
    (elim (is_complete home.plan.width (held_by n) k) as (λ b. is_complete home.plan.width (held_by n) k ≡ b → b ≡ false) [
      | true ↦ λ e.
          let more = least-reached home.plan.width (k + 1) (held_by n) place.checked.width some (complete-reach home.plan.width k (held_by n) e) in
          absurd (omega (arith, more, h))
      | false ↦ λ e. refl
    ]) refl

-- ---- a node that has processed its buckets

-- the node's frontier, its stamps and what is closed, behind the last due bucket
pub record HasProcessed (home : Home) (n m : PlainNode) (last : ℕ) : Type 0 where
  pub held : held_by m ≡ held_by n
  pub frontier : node_frontier m ≡ last + 1
  pub stamps : (k : ℕ) → last < k → stamp_of m.stamps k ≡ stamp_of n.stamps k
  pub closed : (not (is_nil n.closed) ≡ true) ⊎ ((not (is_nil m.closed) ≡ false) ⊎ (complete_upto home n ≤ last))

pub processed-none : (home : Home) (n m : PlainNode) (now last : ℕ) → IsPlace home → 0 < length (held_by n) → node_frontier n ≤ last → due_at home n now ≡ Some last → HasProcessed home n m last →
    due_at home m now ≡ None
processed-none home n m now last place some low e h =
    let w = due_inputs home n in
    let l = last_below-last (λ k. is_overdue w now k || is_reached w k) (buckets_of home.plan) last e in
    last-none (λ k. is_overdue (due_inputs home m) now k || is_reached (due_inputs home m) k) (buckets_of home.plan) (λ k below. by-place l k below (nat_le k last) refl)
  where
    cases : (k : ℕ) → last < k → (not (is_nil n.closed) ≡ true) ⊎ ((not (is_nil m.closed) ≡ false) ⊎ (complete_upto home n ≤ last)) →
        (not (is_nil n.closed) ≡ true) ⊎ ((not (is_nil m.closed) ≡ false) ⊎ (is_complete home.plan.width (held_by n) k ≡ false))
    cases k past (inl f) = inl f
    cases k past (inr (inl f)) = inr (inl f)
    cases k past (inr (inr f)) = inr (inr (incomplete home n k place some (omega (arith, f, past))))

    by-place : IsLast (λ k. is_overdue (due_inputs home n) now k || is_reached (due_inputs home n) k) (buckets_of home.plan) last → (k : ℕ) → k < buckets_of home.plan → (b : Bool) → nat_le k last ≡ b →
        (is_overdue (due_inputs home m) now k || is_reached (due_inputs home m) k) ≡ false
    by-place l k below true f = let frontier = h.frontier in let less = le-of k last f in not-due-before (due_inputs home m) now k (omega (arith, frontier, less))
    by-place l k below false f =
        let past : last < k = grind (arith, common_steps) in
        later-none home n m now k h.held (h.stamps k past) (omega (arith, low, past)) (cases k past h.closed) (l.behind k past below)

-- the last due bucket is at or past the frontier
due-from : (v waited passing x y : Bool) → ((v && waited) || (passing && v && x && y)) ≡ true → v ≡ true
due-from true waited passing x y e = refl
due-from false waited true x y e = cc
due-from false waited false x y e = cc

-- the last due bucket is one of the run, at or past the frontier
pub due-range : (home : Home) (n : PlainNode) (now last : ℕ) → due_at home n now ≡ Some last → (node_frontier n ≤ last) × (last < buckets_of home.plan)
due-range home n now last e =
    let w = due_inputs home n in
    let l = last_below-last (λ k. is_overdue w now k || is_reached w k) (buckets_of home.plan) last e in
    (le-of (node_frontier n) last (due-from (nat_le (node_frontier n) last) _ w.passing _ _ l.passes), l.below)

closing-closes : (home : Home) (n : PlainNode) (last : ℕ) → node_frontier n ≤ last →
    let count = last + 1 - node_frontier n in
    let r = stably home n count in
    (not (is_nil n.closed) ≡ true) ⊎ ((not (is_nil (with_closed home (count - r) (after_stable_buckets home r n)).closed) ≡ false) ⊎ (complete_upto home n ≤ last))
closing-closes home n last low = by-closed n.closed refl
  where
    by-count : (extra : ℕ) → (from : ℕ) → (n.closed ≡ []) → last + 1 - node_frontier n - stably home n (last + 1 - node_frontier n) ≡ extra →
        (not (is_nil n.closed) ≡ true) ⊎ ((not (is_nil (n.closed ++ map (bucket_of home (after_stable_buckets home (stably home n (last + 1 - node_frontier n)) n)) (range_with_len from extra))) ≡ false) ⊎ (complete_upto home n ≤ last))
    by-count zero from none e = inr (inl (rw none refl))
    by-count (suc extra) from none e =
        let whole : complete_buckets home n ≡ complete_upto home n - n.cursor = rw none refl in
        let frontier : node_frontier n ≡ n.cursor = rw none (omega arith) in
        inr (inr (omega (arith, whole, frontier, e, low)))

    by-closed : (closed : List (List Tagged)) → n.closed ≡ closed →
        (not (is_nil n.closed) ≡ true) ⊎ ((not (is_nil (with_closed home (last + 1 - node_frontier n - stably home n (last + 1 - node_frontier n)) (after_stable_buckets home (stably home n (last + 1 - node_frontier n)) n)).closed) ≡ false) ⊎ (complete_upto home n ≤ last))
    by-closed [] none = by-count (last + 1 - node_frontier n - stably home n (last + 1 - node_frontier n)) (node_frontier (after_stable_buckets home (stably home n (last + 1 - node_frontier n)) n)) none refl
    by-closed (b ∷ bs) some = inl (rw some refl)

closing-processed : (home : Home) (n : PlainNode) (last : ℕ) → node_frontier n ≤ last →
    let count = last + 1 - node_frontier n in
    let r = stably home n count in HasProcessed home n (with_closed home (count - r) (after_stable_buckets home r n)) last
closing-processed home n last low =
    let count = last + 1 - node_frontier n in
    let r = stably home n count in
    let m = after_stable_buckets home r n in
    let more = map (bucket_of home m) (range_with_len (node_frontier m) (count - r)) in
    let many : length more ≡ count - r = length-map (range_with_len (node_frontier m) (count - r)) (bucket_of home m) ∙ length-range_with_len (node_frontier m) (count - r) in
    record {
      held = refl;
      frontier = omega (arith, many, length-append n.closed more, low);
      stamps = λ k past. stamp-kept (n.cursor + r) k n.stamps (omega (arith, past, low));
      closed = closing-closes home n last low;
    }

failed-processed : (home : Home) (n m : PlainNode) (last : ℕ) → HasProcessed home n m last → HasProcessed home n (with_failure m) last
failed-processed home n m last h = record { held = h.held; frontier = h.frontier; stamps = h.stamps; closed = h.closed }

pub processed_upto-none : (home : Home) (n : PlainNode) (now last : ℕ) → IsPlace home → 0 < length (held_by n) → due_at home n now ≡ Some last → due_at home (processing_upto home last n).after now ≡ None
processed_upto-none home n now last place some e =
    let low = (due-range home n now last e).0 in
    let count = last + 1 - node_frontier n in
    let r = stably home n count in
    let h = failed-processed home n (with_closed home (count - r) (after_stable_buckets home r n)) last (closing-processed home n last low) in
    processed-none home n (processing_upto home last n).after now last place some low e (record { held = h.held; frontier = h.frontier; stamps = h.stamps; closed = h.closed })
