-- The rows that a bucket adds to a join's output, by what the join keeps.
use Rattle.std.proofs.Common.{◌≡◌, ℕ, ◌+◌, ◌*◌, ◌<◌, ◌≤◌, max, Bool, true, false, cond, ◌&&◌, List, [], ◌∷◌, ◌++◌, map, All, refl, sym, ◌∙◌, ap, arith, nat_le}
use Rattle.std.proofs.lemmas.Grind.{common_steps, flat_map-append}
use Rattle.std.proofs.lemmas.List.{map-append}
use Rattle.std.proofs.lemmas.List.Elements.{filter-append, recursion_from_All}
use Rattle.std.specs.List.{filter, flat_map, AllByRecursion}
use Rattle.dpc_lists.specs.Lists.{sort_by}
use Rattle.dpc_model.specs.Streams.{InOrder, time_of, is_below}
use Rattle.dpc_model.specs.Operators.{joined, are_partners, pairs_with, paired}
use Rattle.dpc_model.specs.Fragments.{at_port}
use Rattle.dpc_model.specs.Engines.{from_time, engine_value, lone_operator, added_output, LiesBelow, IsBucket}
use Rattle.dpc_model.specs.declared.tuples.Tuple.{Tuple}
use Rattle.dpc_model.specs.declared.tuples.Tagged.{Tagged}
use Rattle.dpc_model.specs.declared.operators.OpKind.TheVariants.{Join}
use Rattle.dpc_model.proofs.Causality.{filter-sort, IsOrdered-sort, NoneBelow-filter}
use Rattle.dpc_model.proofs.JoinCausality.{filter-flat_map, cut-joined}
use Rattle.dpc_model.proofs.Buckets.{IsCausal, added-is, at_port-append, bucket-from, bucket-below, at_port-all}
use Rattle.dpc_model.proofs.Kept.{at_port-kept}
use Rattle.dpc_model.proofs.Cuts.{ordered-append}
use Rattle.dpc_model.proofs.Order.{at_port-InOrder}
use Rattle.dpc_model.proofs.Serial.{adjacent-ordered}
use Rattle.ops_join.specs.Joins.{join_value, kept_from}
use Rattle.ops_join.specs.Sides.{bucket_rows}
use Rattle.ops_join.specs.Keeping.{IsKept}

and_false : (a b : Bool) → ((a && false) && b) ≡ false
and_false true b = refl
and_false false b = refl

-- ---- one left tuple

module _ (w : ℕ) (keys : List (ℕ × ℕ)) (b : ℕ) where
  pairs-append : (rs right : List Tuple) (l : Tuple) → pairs_with w keys (rs ++ right) l ≡ pairs_with w keys rs l ++ pairs_with w keys right l
  pairs-append rs right l =
      ap (λ (ts : List Tuple). map (paired l) ts) (filter-append (are_partners w keys l) rs right)
      ∙ map-append (paired l) (filter (are_partners w keys l) rs) (filter (are_partners w keys l) right)

  early-pairs : (l : Tuple) → l.stime < b → (rs : List Tuple) → AllByRecursion (λ (t : Tuple). t.stime < b) rs → from_time b (pairs_with w keys rs l) ≡ []
  early-pairs l h [] a = refl
  early-pairs l h (r ∷ rs) a =
      elim (are_partners w keys l r) as (λ c. from_time b (map (paired l) (cond c (r ∷ filter (are_partners w keys l) rs) (filter (are_partners w keys l) rs))) ≡ []) [
        | true ↦ let early : nat_le b (max l.stime r.stime) ≡ false = grind (arith, common_steps, a.0, h) in rw early (early-pairs l h rs a.1)
        | false ↦ early-pairs l h rs a.1
      ]

  late-pairs : (l : Tuple) (rs : List Tuple) → AllByRecursion (λ (t : Tuple). b ≤ t.stime) rs → from_time b (pairs_with w keys rs l) ≡ pairs_with w keys rs l
  late-pairs l [] a = refl
  late-pairs l (r ∷ rs) a =
      elim (are_partners w keys l r) as (λ c. from_time b (map (paired l) (cond c (r ∷ filter (are_partners w keys l) rs) (filter (are_partners w keys l) rs))) ≡ map (paired l) (cond c (r ∷ filter (are_partners w keys l) rs) (filter (are_partners w keys l) rs))) [
        | true ↦ let late : nat_le b (max l.stime r.stime) ≡ true = grind (arith, common_steps, a.0) in rw late (ap (λ (ts : List Tuple). paired l r ∷ ts) (late-pairs l rs a.1))
        | false ↦ late-pairs l rs a.1
      ]

  pub new-pairs : (l : Tuple) → b ≤ l.stime → (rs : List Tuple) → from_time b (pairs_with w keys rs l) ≡ pairs_with w keys rs l
  new-pairs l h [] = refl
  new-pairs l h (r ∷ rs) =
      elim (are_partners w keys l r) as (λ c. from_time b (map (paired l) (cond c (r ∷ filter (are_partners w keys l) rs) (filter (are_partners w keys l) rs))) ≡ map (paired l) (cond c (r ∷ filter (are_partners w keys l) rs) (filter (are_partners w keys l) rs))) [
        | true ↦ let late : nat_le b (max l.stime r.stime) ≡ true = grind (arith, common_steps, h) in rw late (ap (λ (ts : List Tuple). paired l r ∷ ts) (new-pairs l h rs))
        | false ↦ new-pairs l h rs
      ]

  -- an old left tuple gives rows with new right ones alone
  old-rows : (l : Tuple) → l.stime < b → (rs right : List Tuple) → AllByRecursion (λ (t : Tuple). t.stime < b) rs → AllByRecursion (λ (t : Tuple). b ≤ t.stime) right →
      from_time b (pairs_with w keys (rs ++ right) l) ≡ pairs_with w keys right l
  old-rows l h rs right a c =
      ap (λ (ts : List Tuple). from_time b ts) (pairs-append rs right l)
      ∙ filter-append (λ (t : Tuple). nat_le b t.stime) (pairs_with w keys rs l) (pairs_with w keys right l)
      ∙ rw (early-pairs l h rs a) (late-pairs l right c)

  -- a new left tuple has no partner among the right ones that are not kept
  not-partners : (l r : Tuple) → b ≤ l.stime → nat_le b (r.stime + w) ≡ false → are_partners w keys l r ≡ false
  not-partners l r h e = let far : nat_le l.stime (r.stime + w) ≡ false = grind (arith, common_steps) in rw far refl

  kept-partners : (l : Tuple) → b ≤ l.stime → (rs : List Tuple) → filter (are_partners w keys l) (kept_from w b rs) ≡ filter (are_partners w keys l) rs
  kept-partners l h [] = refl
  kept-partners l h (r ∷ rs) =
      (elim (nat_le b (r.stime + w)) as (λ c. nat_le b (r.stime + w) ≡ c → filter (are_partners w keys l) (cond c (r ∷ kept_from w b rs) (kept_from w b rs)) ≡ filter (are_partners w keys l) (r ∷ rs)) [
        | true ↦ λ e. rw (kept-partners l h rs) refl
        | false ↦ λ e. rw (not-partners l r h e) (kept-partners l h rs)
      ]) refl

  new-rows : (l : Tuple) → b ≤ l.stime → (rs right : List Tuple) → from_time b (pairs_with w keys (rs ++ right) l) ≡ pairs_with w keys (kept_from w b rs ++ right) l
  new-rows l h rs right =
      new-pairs l h (rs ++ right) ∙ pairs-append rs right l
      ∙ ap (λ (ts : List Tuple). map (paired l) ts ++ pairs_with w keys right l) (sym (kept-partners l h rs))
      ∙ sym (pairs-append (kept_from w b rs) right l)

  -- ---- all left tuples

  pub old-left : (rs right ls : List Tuple) → AllByRecursion (λ (t : Tuple). t.stime < b) rs → AllByRecursion (λ (t : Tuple). b ≤ t.stime) right → AllByRecursion (λ (t : Tuple). t.stime < b) ls →
      flat_map (λ l. from_time b (pairs_with w keys (rs ++ right) l)) ls ≡ flat_map (pairs_with w keys right) ls
  old-left rs right [] a c h = refl
  old-left rs right (l ∷ ls) a c h = rw (old-rows l h.0 rs right a c, old-left rs right ls a c h.1) refl

  new-left : (rs right ls : List Tuple) → AllByRecursion (λ (t : Tuple). b ≤ t.stime) ls →
      flat_map (λ l. from_time b (pairs_with w keys (rs ++ right) l)) ls ≡ flat_map (pairs_with w keys (kept_from w b rs ++ right)) ls
  new-left rs right [] h = refl
  new-left rs right (l ∷ ls) h = rw (new-rows l h.0 rs right, new-left rs right ls h.1) refl

  -- a left tuple that is not kept has no new partner
  over-pairs : (l : Tuple) → nat_le b (l.stime + w) ≡ false → (right : List Tuple) → AllByRecursion (λ (t : Tuple). b ≤ t.stime) right → pairs_with w keys right l ≡ []
  over-pairs l e [] a = refl
  over-pairs l e (r ∷ rs) a =
      let far : nat_le r.stime (l.stime + w) ≡ false = grind (arith, common_steps, a.0) in
      let apart : are_partners w keys l r ≡ false = rw far (and_false (nat_le l.stime (r.stime + w)) _) in
      rw apart (over-pairs l e rs a.1)

  kept-left : (right ls : List Tuple) → AllByRecursion (λ (t : Tuple). b ≤ t.stime) right → flat_map (pairs_with w keys right) ls ≡ flat_map (pairs_with w keys right) (kept_from w b ls)
  kept-left right [] a = refl
  kept-left right (l ∷ ls) a =
      (elim (nat_le b (l.stime + w)) as (λ c. nat_le b (l.stime + w) ≡ c → pairs_with w keys right l ++ flat_map (pairs_with w keys right) ls ≡ flat_map (pairs_with w keys right) (cond c (l ∷ kept_from w b ls) (kept_from w b ls))) [
        | true ↦ λ e. ap (λ (ts : List Tuple). pairs_with w keys right l ++ ts) (kept-left right ls a)
        | false ↦ λ e. rw (over-pairs l e right a) (kept-left right ls a)
      ]) refl

  -- the rows from a time on
  pub rows-from : (ls rs left right : List Tuple) → AllByRecursion (λ (t : Tuple). t.stime < b) ls → AllByRecursion (λ (t : Tuple). t.stime < b) rs →
      AllByRecursion (λ (t : Tuple). b ≤ t.stime) left → AllByRecursion (λ (t : Tuple). b ≤ t.stime) right →
      from_time b (joined w keys (ls ++ left) (rs ++ right)) ≡ bucket_rows w keys (kept_from w b ls) (kept_from w b rs) left right
  rows-from ls rs left right hl hr nl nr =
      let late = λ (l : Tuple). from_time b (pairs_with w keys (rs ++ right) l) in
      filter-sort time_of (λ (t : Tuple). nat_le b t.stime) (flat_map (pairs_with w keys (rs ++ right)) (ls ++ left))
      ∙ ap (λ (ts : List Tuple). sort_by time_of ts)
      (filter-flat_map (λ (t : Tuple). nat_le b t.stime) (pairs_with w keys (rs ++ right)) (ls ++ left)
      ∙ flat_map-append late ls left
      ∙ ap (λ (ts : List Tuple). ts ++ flat_map late left) (old-left rs right ls hr nr hl ∙ kept-left right ls nr)
      ∙ ap (λ (ts : List Tuple). flat_map (pairs_with w keys right) (kept_from w b ls) ++ ts) (new-left rs right left nl))

-- an engine of a join makes what the join makes
pub join-value : (w : ℕ) (keys : List (ℕ × ℕ)) (xs : List Tagged) (b : ℕ) → engine_value (lone_operator (Join w keys) 2) xs b ≡ join_value w keys xs b
join-value w keys xs b = refl

pub join-causal : (w : ℕ) (keys : List (ℕ × ℕ)) → IsCausal (join_value w keys)
join-causal w keys xs b b' h =
    cut-joined w keys (at_port 0 xs) (at_port 1 xs) b
    ∙ rw (at_port-kept (is_below b) 0 xs, at_port-kept (is_below b) 1 xs) refl

-- ---- what came by a port

port-below : (b p : ℕ) (xs : List Tagged) → All (LiesBelow b) xs → AllByRecursion (λ (t : Tuple). t.stime < b) (at_port p xs)
port-below b p xs h = at_port-all (λ (t : Tuple). t.stime < b) p xs (recursion_from_All (LiesBelow b) xs h)

port-from : (width k p : ℕ) (xs : List Tagged) → IsBucket width k xs → AllByRecursion (λ (t : Tuple). k * width ≤ t.stime) (at_port p xs)
port-from width k p xs h = at_port-all (λ (t : Tuple). k * width ≤ t.stime) p xs (bucket-from width k xs h.inside)

port-before : (width k p : ℕ) (xs : List Tagged) → IsBucket width k xs → AllByRecursion (λ (t : Tuple). t.stime < (k + 1) * width) (at_port p xs)
port-before width k p xs h = at_port-all (λ (t : Tuple). t.stime < (k + 1) * width) p xs (bucket-below width k xs h.inside)

-- ---- a bucket

pub answer-is : (w : ℕ) (keys : List (ℕ × ℕ)) (width k : ℕ) (before bucket : List Tagged) (ls rs rows : List Tuple) → All (LiesBelow (k * width)) before → IsBucket width k bucket →
    ls ≡ kept_from w (k * width) (at_port 0 before) → rs ≡ kept_from w (k * width) (at_port 1 before) → rows ≡ bucket_rows w keys ls rs (at_port 0 bucket) (at_port 1 bucket) →
    rows ≡ added_output (join_value w keys) width before bucket k
answer-is w keys width k before bucket ls rs rows below inside el er e =
    let b = k * width in
    let whole : from_time b (joined w keys (at_port 0 (before ++ bucket)) (at_port 1 (before ++ bucket)))
    ≡ bucket_rows w keys (kept_from w b (at_port 0 before)) (kept_from w b (at_port 1 before)) (at_port 0 bucket) (at_port 1 bucket) =
    rw (at_port-append 0 before bucket, at_port-append 1 before bucket)
    (rows-from w keys b (at_port 0 before) (at_port 1 before) (at_port 0 bucket) (at_port 1 bucket) (port-below b 0 before below) (port-below b 1 before below)
    (port-from width k 0 bucket inside) (port-from width k 1 bucket inside))
    in
    let added = added-is (join_value w keys) width k before bucket (join-causal w keys) (IsOrdered-sort time_of (flat_map (pairs_with w keys (at_port 1 (before ++ bucket))) (at_port 0 (before ++ bucket)))) below inside.inside in
    rw (e, el, er) (sym (added ∙ whole))

pub taken-ordered : (width k p : ℕ) (ts : List Tuple) (bucket : List Tagged) → InOrder ts → AllByRecursion (λ (t : Tuple). t.stime < k * width) ts → IsBucket width k bucket → InOrder (ts ++ at_port p bucket)
taken-ordered width k p ts bucket o below inside =
    ordered-append time_of (k * width) ts (at_port p bucket) o (at_port-InOrder p bucket (adjacent-ordered bucket inside.ordered)) below (port-from width k p bucket inside)

-- what is kept at a later time is kept of what was kept
kept-kept : (w b b' : ℕ) (ts : List Tuple) → b ≤ b' → kept_from w b' (kept_from w b ts) ≡ kept_from w b' ts
kept-kept w b b' [] h = refl
kept-kept w b b' (t ∷ ts) h =
    (elim (nat_le b (t.stime + w)) as (λ c. nat_le b (t.stime + w) ≡ c → kept_from w b' (cond c (t ∷ kept_from w b ts) (kept_from w b ts)) ≡ kept_from w b' (t ∷ ts)) [
      | true ↦ λ e. rw (kept-kept w b b' ts h) refl
      | false ↦ λ e. let late : nat_le b' (t.stime + w) ≡ false = grind (arith, common_steps) in rw late (kept-kept w b b' ts h)
    ]) refl

pub kept-next : (w width k p : ℕ) (before bucket : List Tagged) (ts us : List Tuple) → ts ≡ kept_from w (k * width) (at_port p before) → us ≡ kept_from w ((k + 1) * width) (ts ++ at_port p bucket) →
    us ≡ kept_from w ((k + 1) * width) (at_port p (before ++ bucket))
kept-next w width k p before bucket ts us et eu =
    let b' = (k + 1) * width in
    let later : k * width ≤ (k + 1) * width = grind (arith, common_steps) in
    let kept = λ (t : Tuple). nat_le b' (t.stime + w) in
    eu ∙ filter-append kept ts (at_port p bucket)
    ∙ ap (λ (vs : List Tuple). vs ++ kept_from w b' (at_port p bucket)) (ap (λ (vs : List Tuple). kept_from w b' vs) et ∙ kept-kept w (k * width) b' (at_port p before) later)
    ∙ sym (filter-append kept (at_port p before) (at_port p bucket))
    ∙ ap (λ (vs : List Tuple). kept_from w b' vs) (sym (at_port-append p before bucket))

-- ---- the sides

pub all-append : (P : Tuple → Type 0) (ts us : List Tuple) → AllByRecursion P ts → AllByRecursion P us → AllByRecursion P (ts ++ us)
all-append P [] us h g = g
all-append P (t ∷ ts) us h g = (h.0, all-append P ts us h.1 g)

all-filter : (P : Tuple → Type 0) (p : Tuple → Bool) (ts : List Tuple) → AllByRecursion P ts → AllByRecursion P (filter p ts)
all-filter P p [] h = tt
all-filter P p (t ∷ ts) h =
    elim (p t) as (λ c. AllByRecursion P (cond c (t ∷ filter p ts) (filter p ts))) [
      | true ↦ (h.0, all-filter P p ts h.1)
      | false ↦ all-filter P p ts h.1
    ]

pub all-below : (b b' : ℕ) (ts : List Tuple) → b ≤ b' → AllByRecursion (λ (t : Tuple). t.stime < b) ts → AllByRecursion (λ (t : Tuple). t.stime < b') ts
all-below b b' [] h g = tt
all-below b b' (t ∷ ts) h g = (omega (arith, g.0), all-below b b' ts h g.1)

filter-ordered : (p : Tuple → Bool) (ts : List Tuple) → InOrder ts → InOrder (filter p ts)
filter-ordered p [] o = tt
filter-ordered p (t ∷ ts) o =
    elim (p t) as (λ c. InOrder (cond c (t ∷ filter p ts) (filter p ts))) [
      | true ↦ (NoneBelow-filter time_of p t.stime ts o.0, filter-ordered p ts o.1)
      | false ↦ filter-ordered p ts o.1
    ]

-- a side after a bucket
pub IsKept-next : (w width k p : ℕ) (ts us : List Tuple) (bucket : List Tagged) → IsKept (k * width) ts → IsBucket width k bucket → us ≡ kept_from w ((k + 1) * width) (ts ++ at_port p bucket) → IsKept ((k + 1) * width) us
IsKept-next w width k p ts us bucket kept inside e =
    let later : k * width ≤ (k + 1) * width = grind (arith, common_steps) in
    let keep = λ (t : Tuple). nat_le ((k + 1) * width) (t.stime + w) in
    rw e (record {
      order = filter-ordered keep (ts ++ at_port p bucket) (taken-ordered width k p ts bucket kept.order kept.below inside);
      below =
          all-filter (λ (t : Tuple). t.stime < (k + 1) * width) keep (ts ++ at_port p bucket)
          (all-append (λ (t : Tuple). t.stime < (k + 1) * width) ts (at_port p bucket) (all-below (k * width) ((k + 1) * width) ts later kept.below) (port-before width k p bucket inside));
    })
