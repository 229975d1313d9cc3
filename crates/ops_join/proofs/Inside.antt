-- The rows that a bucket adds lie in it, and what stays on a side may stay there.
use Rattle.std.proofs.Common.{◌≡◌, ℕ, ◌+◌, ◌*◌, ◌<◌, ◌≤◌, max, true, false, cond, List, [], ◌∷◌, ◌++◌, map, arith, nat_lt, All}
use Rattle.std.proofs.lemmas.Grind.{common_steps}
use Rattle.std.proofs.lemmas.List.Elements.{All-from_recursion}
use Rattle.std.specs.List.{filter, flat_map, AllByRecursion}
use Rattle.dpc_lists.specs.Lists.{insert_by, sort_by}
use Rattle.dpc_model.specs.Streams.{time_of}
use Rattle.dpc_model.specs.Operators.{are_partners, pairs_with, paired}
use Rattle.dpc_model.specs.Fragments.{at_port}
use Rattle.dpc_model.specs.Engines.{IsBucket}
use Rattle.dpc_model.specs.declared.tuples.Tuple.{Tuple}
use Rattle.dpc_model.specs.declared.tuples.Tagged.{Tagged}
use Rattle.dpc_model.proofs.Buckets.{bucket-from, bucket-below, at_port-all}
use Rattle.ops_join.specs.Joins.{kept_from}
use Rattle.ops_join.specs.Sides.{bucket_rows}
use Rattle.ops_join.specs.Saving.{can_all_wait}
use Rattle.ops_join.proofs.Joining.{all-append, all-below, taken-ordered}
use Rattle.ops_join.proofs.Resumes.{IsKept-wait, wait-kept}

-- ---- what is true of each element is true of each in another order

insert-all : (P : Tuple → Type 0) (t : Tuple) (ts : List Tuple) → P t → AllByRecursion P ts → AllByRecursion P (insert_by time_of t ts)
insert-all P t [] p h = (p, tt)
insert-all P t (u ∷ ts) p h =
    elim (nat_lt (time_of u) (time_of t)) as (λ c. AllByRecursion P (cond c (u ∷ insert_by time_of t ts) (t ∷ u ∷ ts))) [
      | true ↦ (h.0, insert-all P t ts p h.1)
      | false ↦ (p, h)
    ]

sort-all : (P : Tuple → Type 0) (ts : List Tuple) → AllByRecursion P ts → AllByRecursion P (sort_by time_of ts)
sort-all P [] h = tt
sort-all P (t ∷ ts) h = insert-all P t (sort_by time_of ts) h.0 (sort-all P ts h.1)

-- ---- rows

module _ (w : ℕ) (keys : List (ℕ × ℕ)) (b e : ℕ) where
  abbrev pub IsInside : Tuple → Type 0
  IsInside t = (b ≤ t.stime) × (t.stime < e)

  abbrev pub IsEarly : Tuple → Type 0
  IsEarly t = t.stime < e

  -- a tuple of the bucket, whatever it pairs with
  new-pairs : (l : Tuple) → IsInside l → (rs : List Tuple) → AllByRecursion IsEarly rs → AllByRecursion IsInside (pairs_with w keys rs l)
  new-pairs l h [] a = tt
  new-pairs l h (r ∷ rs) a =
      elim (are_partners w keys l r) as (λ c. AllByRecursion IsInside (map (paired l) (cond c (r ∷ filter (are_partners w keys l) rs) (filter (are_partners w keys l) rs)))) [
        | true ↦ (both l.stime r.stime h.0 h.1 a.0, new-pairs l h rs a.1)
        | false ↦ new-pairs l h rs a.1
      ]
    where
      both : (m n : ℕ) → b ≤ m → m < e → n < e → (b ≤ max m n) × (max m n < e)
      both m n h k g = (omega (arith, h, k, g), omega (arith, h, k, g))

  -- one before the bucket with those of the bucket
  old-pairs : (l : Tuple) → IsEarly l → (rs : List Tuple) → AllByRecursion IsInside rs → AllByRecursion IsInside (pairs_with w keys rs l)
  old-pairs l h [] a = tt
  old-pairs l h (r ∷ rs) a =
      elim (are_partners w keys l r) as (λ c. AllByRecursion IsInside (map (paired l) (cond c (r ∷ filter (are_partners w keys l) rs) (filter (are_partners w keys l) rs)))) [
        | true ↦ (both l.stime r.stime h a.0.0 a.0.1, old-pairs l h rs a.1)
        | false ↦ old-pairs l h rs a.1
      ]
    where
      both : (m n : ℕ) → m < e → b ≤ n → n < e → (b ≤ max m n) × (max m n < e)
      both m n h k g = (omega (arith, h, k, g), omega (arith, h, k, g))

  -- all left tuples
  all-new : (ls rs : List Tuple) → AllByRecursion IsInside ls → AllByRecursion IsEarly rs → AllByRecursion IsInside (flat_map (pairs_with w keys rs) ls)
  all-new [] rs h a = tt
  all-new (l ∷ ls) rs h a = all-append IsInside (pairs_with w keys rs l) (flat_map (pairs_with w keys rs) ls) (new-pairs l h.0 rs a) (all-new ls rs h.1 a)

  all-old : (ls rs : List Tuple) → AllByRecursion IsEarly ls → AllByRecursion IsInside rs → AllByRecursion IsInside (flat_map (pairs_with w keys rs) ls)
  all-old [] rs h a = tt
  all-old (l ∷ ls) rs h a = all-append IsInside (pairs_with w keys rs l) (flat_map (pairs_with w keys rs) ls) (old-pairs l h.0 rs a) (all-old ls rs h.1 a)

  each-early : (ts : List Tuple) → AllByRecursion IsInside ts → AllByRecursion IsEarly ts
  each-early [] h = tt
  each-early (t ∷ ts) h = (h.0.1, each-early ts h.1)

  rows-inside : (ls rs left right : List Tuple) → AllByRecursion IsEarly ls → AllByRecursion IsEarly rs → AllByRecursion IsInside left → AllByRecursion IsInside right →
      AllByRecursion IsInside (bucket_rows w keys ls rs left right)
  rows-inside ls rs left right hl hr nl nr =
      sort-all IsInside (flat_map (pairs_with w keys right) ls ++ flat_map (pairs_with w keys (rs ++ right)) left)
      (all-append IsInside (flat_map (pairs_with w keys right) ls) (flat_map (pairs_with w keys (rs ++ right)) left) (all-old ls right hl nr)
      (all-new left (rs ++ right) nl (all-append IsEarly rs right hr (each-early right nr))))

-- ---- a bucket

both-sides : (b e : ℕ) (ts : List Tuple) → AllByRecursion (λ (t : Tuple). b ≤ t.stime) ts → AllByRecursion (λ (t : Tuple). t.stime < e) ts → AllByRecursion (λ (t : Tuple). (b ≤ t.stime) × (t.stime < e)) ts
both-sides b e [] h k = tt
both-sides b e (t ∷ ts) h k = ((h.0, k.0), both-sides b e ts h.1 k.1)

port-inside : (width k p : ℕ) (xs : List Tagged) → IsBucket width k xs → AllByRecursion (λ (t : Tuple). (k * width ≤ t.stime) × (t.stime < (k + 1) * width)) (at_port p xs)
port-inside width k p xs h =
    both-sides (k * width) ((k + 1) * width) (at_port p xs)
    (at_port-all (λ (t : Tuple). k * width ≤ t.stime) p xs (bucket-from width k xs h.inside))
    (at_port-all (λ (t : Tuple). t.stime < (k + 1) * width) p xs (bucket-below width k xs h.inside))

-- the rows of a join with sides that may wait
pub answer-inside : (w : ℕ) (keys : List (ℕ × ℕ)) (width k : ℕ) (bucket : List Tagged) (ls rs rows : List Tuple) → can_all_wait w (k * width) ls ≡ true → can_all_wait w (k * width) rs ≡ true →
    IsBucket width k bucket → rows ≡ bucket_rows w keys ls rs (at_port 0 bucket) (at_port 1 bucket) → All (λ (t : Tuple). (k * width ≤ t.stime) × (t.stime < (k + 1) * width)) rows
answer-inside w keys width k bucket ls rs rows left right inside e =
    let later : k * width ≤ (k + 1) * width = grind (arith, common_steps) in
    let Inside = λ (t : Tuple). (k * width ≤ t.stime) × (t.stime < (k + 1) * width) in
    let all =
    rows-inside w keys (k * width) ((k + 1) * width) ls rs (at_port 0 bucket) (at_port 1 bucket) (all-below (k * width) ((k + 1) * width) ls later (IsKept-wait w (k * width) ls left).below)
    (all-below (k * width) ((k + 1) * width) rs later (IsKept-wait w (k * width) rs right).below) (port-inside width k 0 bucket inside) (port-inside width k 1 bucket inside) in
    rw e (All-from_recursion Inside (bucket_rows w keys ls rs (at_port 0 bucket) (at_port 1 bucket)) all)

-- a side that may wait does so after a bucket
pub wait-next : (w width k p : ℕ) (ts us : List Tuple) (bucket : List Tagged) → can_all_wait w (k * width) ts ≡ true → IsBucket width k bucket → us ≡ kept_from w ((k + 1) * width) (ts ++ at_port p bucket) →
    can_all_wait w ((k + 1) * width) us ≡ true
wait-next w width k p ts us bucket wait inside e =
    let later : k * width ≤ (k + 1) * width = grind (arith, common_steps) in
    let kept = IsKept-wait w (k * width) ts wait in
    rw e (wait-kept w ((k + 1) * width) (ts ++ at_port p bucket)
    (all-append (λ (t : Tuple). t.stime < (k + 1) * width) ts (at_port p bucket) (all-below (k * width) ((k + 1) * width) ts later kept.below)
    (at_port-all (λ (t : Tuple). t.stime < (k + 1) * width) p bucket (bucket-below width k bucket inside.inside)))
    (taken-ordered width k p ts bucket kept.order kept.below inside))
