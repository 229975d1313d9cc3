-- The rows of a bucket, time by time.
use Rattle.std.proofs.Common.{◌≡◌, ℕ, zero, suc, ◌+◌, ◌-◌, ◌<◌, ◌≤◌, max, Bool, true, false, cond, List, [], ◌∷◌, ◌++◌, map, length, take, drop, append_assoc, refl, sym, ◌∙◌, ap, subst, arith, nat_le, nat_lt, get_or}
use Rattle.std.proofs.lemmas.Grind.{common_steps, flat_map-append}
use Rattle.std.proofs.lemmas.List.{take-append-drop}
use Rattle.std.proofs.lemmas.Bool.{ltb-true}
use Rattle.std.proofs.lemmas.List.Elements.{filter-append}
use Rattle.std.specs.List.{filter, flat_map, AllByRecursion}
use Rattle.dpc_lists.specs.Lists.{sort_by}
use Rattle.dpc_model.specs.Streams.{NoneBelow, IsOrdered, time_of, is_below, cut}
use Rattle.dpc_model.specs.Operators.{joined, are_partners, pairs_with, paired}
use Rattle.dpc_model.specs.Fragments.{at_port}
use Rattle.dpc_model.specs.Engines.{from_time}
use Rattle.dpc_model.specs.declared.tuples.Tuple.{Tuple}
use Rattle.dpc_model.specs.declared.tuples.Tagged.{Tagged}
use Rattle.dpc_model.proofs.Causality.{filter-filter, filter-sort, IsOrdered-sort, sort_by-ordered}
use Rattle.dpc_model.proofs.JoinCausality.{filter-flat_map, cut-joined}
use Rattle.dpc_model.proofs.Buckets.{at_port-append, at_port-all}
use Rattle.dpc_model.proofs.Cuts.{ordered-split, those_below, those_from, below-take, from-drop, count-more}
use Rattle.dpc_model.proofs.Order.{IsOrdered-filter}
use Rattle.ops_join.specs.Sides.{bucket_rows}
use Rattle.ops_join.specs.Groups.{tagged_below, ComesAfter, group_rows}
use Rattle.ops_join.proofs.Giving.{drop-next}
use Rattle.ops_join.proofs.Joining.{old-left, new-pairs, all-append, all-below}

abbrev pub AllBelow : ℕ → List Tuple → Type 0
AllBelow b ts = AllByRecursion (λ (t : Tuple). t.stime < b) ts

abbrev pub AllFrom : ℕ → List Tuple → Type 0
AllFrom b ts = AllByRecursion (λ (t : Tuple). b ≤ t.stime) ts

from-lower : (a b : ℕ) (ts : List Tuple) → a ≤ b → AllFrom b ts → AllFrom a ts
from-lower a b [] h g = tt
from-lower a b (t ∷ ts) h g = (omega (arith, h, g.0), from-lower a b ts h g.1)

cut-all : (b : ℕ) (ts : List Tuple) → AllBelow b ts → cut ts b ≡ ts
cut-all b [] h = refl
cut-all b (t ∷ ts) h = let early : nat_lt t.stime b ≡ true = grind (arith, common_steps, h.0) in rw early (ap (λ (us : List Tuple). t ∷ us) (cut-all b ts h.1))

cut-none : (b : ℕ) (ts : List Tuple) → AllFrom b ts → cut ts b ≡ []
cut-none b [] h = refl
cut-none b (t ∷ ts) h = let late : nat_lt t.stime b ≡ false = grind (arith, common_steps, h.0) in rw late (cut-none b ts h.1)

cut-first : (b : ℕ) (ts us vs : List Tuple) → AllBelow b ts → AllBelow b us → AllFrom b vs → cut (ts ++ (us ++ vs)) b ≡ ts ++ us
cut-first b ts us vs h g l =
    filter-append (is_below b) ts (us ++ vs)
    ∙ rw (cut-all b ts h) (ap (λ (ws : List Tuple). ts ++ ws) (filter-append (is_below b) us vs ∙ rw (cut-all b us g, cut-none b vs l) (nil us)))
  where
    nil : (ws : List Tuple) → ws ++ [] ≡ ws
    nil [] = refl
    nil (w ∷ ws) = ap (λ (xs : List Tuple). w ∷ xs) (nil ws)

both : (ts ts' us us' : List Tuple) → ts ≡ ts' → us ≡ us' → ts ++ us ≡ ts' ++ us'
both ts ts' us us' e f = rw (e, f) refl

module _ (w : ℕ) (keys : List (ℕ × ℕ)) where
  new-rows : (b : ℕ) (rs ls : List Tuple) → AllFrom b ls → flat_map (λ l. from_time b (pairs_with w keys rs l)) ls ≡ flat_map (pairs_with w keys rs) ls
  new-rows b rs [] h = refl
  new-rows b rs (l ∷ ls) h = rw (new-pairs w keys b l h.0 rs, new-rows b rs ls h.1) refl

  -- the rows from a time on
  rows-after : (b : ℕ) (ls rs left1 right1 left2 right2 : List Tuple) → AllBelow b ls → AllBelow b rs → AllBelow b left1 → AllBelow b right1 → AllFrom b left2 → AllFrom b right2 →
      from_time b (bucket_rows w keys ls rs (left1 ++ left2) (right1 ++ right2)) ≡ bucket_rows w keys (ls ++ left1) (rs ++ right1) left2 right2
  rows-after b ls rs left1 right1 left2 right2 hl hr hl1 hr1 hl2 hr2 =
      let late = λ (t : Tuple). nat_le b t.stime in
      let all = (rs ++ right1) ++ right2 in
      let first = flat_map (pairs_with w keys (right1 ++ right2)) ls in
      let second = flat_map (pairs_with w keys (rs ++ (right1 ++ right2))) (left1 ++ left2) in
      let of_first : from_time b first ≡ flat_map (pairs_with w keys right2) ls =
      filter-flat_map late (pairs_with w keys (right1 ++ right2)) ls ∙ old-left w keys b right1 right2 ls hr1 hr2 hl in
      let of_second : from_time b second ≡ flat_map (pairs_with w keys right2) left1 ++ flat_map (pairs_with w keys all) left2 =
      ap (λ (ts : List Tuple). from_time b (flat_map (pairs_with w keys ts) (left1 ++ left2))) (sym (append_assoc rs right1 right2))
      ∙ filter-flat_map late (pairs_with w keys all) (left1 ++ left2)
      ∙ flat_map-append (λ (l : Tuple). from_time b (pairs_with w keys all l)) left1 left2
      ∙ both (flat_map (λ (l : Tuple). from_time b (pairs_with w keys all l)) left1) (flat_map (pairs_with w keys right2) left1) (flat_map (λ (l : Tuple). from_time b (pairs_with w keys all l)) left2) (flat_map (pairs_with w keys all) left2)
      (old-left w keys b (rs ++ right1) right2 left1 (all-append (λ (t : Tuple). t.stime < b) rs right1 hr hr1) hr2 hl1) (new-rows b all left2 hl2) in
      filter-sort time_of late (first ++ second)
      ∙ ap (λ (ts : List Tuple). sort_by time_of ts)
      (filter-append late first second ∙ both (from_time b first) (flat_map (pairs_with w keys right2) ls) (from_time b second) (flat_map (pairs_with w keys right2) left1 ++ flat_map (pairs_with w keys all) left2) of_first of_second
      ∙ (sym (append_assoc (flat_map (pairs_with w keys right2) ls) (flat_map (pairs_with w keys right2) left1) (flat_map (pairs_with w keys all) left2))
      ∙ ap (λ (ts : List Tuple). ts ++ flat_map (pairs_with w keys all) left2) (sym (flat_map-append (pairs_with w keys right2) ls left1))))

  -- as rows of all that came
  rows-of-all : (a : ℕ) (ls rs left right : List Tuple) → AllBelow a ls → AllBelow a rs → AllFrom a left → AllFrom a right →
      from_time a (joined w keys (ls ++ left) (rs ++ right)) ≡ bucket_rows w keys ls rs left right
  rows-of-all a ls rs left right hl hr nl nr = rows-after a [] [] ls rs left right tt tt hl hr nl nr

  -- the rows of what came before a time, and then those of what came from it on
  rows-more : (a b : ℕ) (ls rs left1 right1 left2 right2 : List Tuple) → a ≤ b → AllBelow a ls → AllBelow a rs → AllBelow b left1 → AllBelow b right1 → AllFrom a left1 → AllFrom a right1 → AllFrom b left2 → AllFrom b right2 →
      bucket_rows w keys ls rs (left1 ++ left2) (right1 ++ right2) ≡ bucket_rows w keys ls rs left1 right1 ++ bucket_rows w keys (ls ++ left1) (rs ++ right1) left2 right2
  rows-more a b ls rs left1 right1 left2 right2 up hl hr bl1 br1 al1 ar1 bl2 br2 =
      let whole = bucket_rows w keys ls rs (left1 ++ left2) (right1 ++ right2) in
      let below_l = all-below a b ls up hl in
      let below_r = all-below a b rs up hr in
      let all = joined w keys (ls ++ (left1 ++ left2)) (rs ++ (right1 ++ right2)) in
      let late = λ (t : Tuple). nat_le a t.stime in
      let is : from_time a all ≡ whole =
      rows-of-all a ls rs (left1 ++ left2) (right1 ++ right2) hl hr (all-append (λ (t : Tuple). a ≤ t.stime) left1 left2 al1 (from-lower a b left2 up bl2)) (all-append (λ (t : Tuple). a ≤ t.stime) right1 right2 ar1 (from-lower a b right2 up br2)) in
      let early : cut whole b ≡ bucket_rows w keys ls rs left1 right1 =
      ap (λ (ts : List Tuple). cut ts b) (sym is) ∙ filter-filter (is_below b) late all
      ∙ ap (λ (ts : List Tuple). from_time a ts)
      (cut-joined w keys (ls ++ (left1 ++ left2)) (rs ++ (right1 ++ right2)) b
      ∙ ap (λ (ts : List Tuple). joined w keys ts (cut (rs ++ (right1 ++ right2)) b)) (cut-first b ls left1 left2 below_l bl1 bl2)
      ∙ ap (λ (ts : List Tuple). joined w keys (ls ++ left1) ts) (cut-first b rs right1 right2 below_r br1 br2))
      ∙ rows-of-all a ls rs left1 right1 hl hr al1 ar1 in
      let later : from_time b whole ≡ bucket_rows w keys (ls ++ left1) (rs ++ right1) left2 right2 =
      rows-after b ls rs left1 right1 left2 right2 below_l below_r bl1 br1 bl2 br2 in
      ordered-split time_of b whole (IsOrdered-sort time_of (flat_map (pairs_with w keys (right1 ++ right2)) ls ++ flat_map (pairs_with w keys (rs ++ (right1 ++ right2))) (left1 ++ left2)))
      ∙ both (cut whole b) (bucket_rows w keys ls rs left1 right1) (from_time b whole) (bucket_rows w keys (ls ++ left1) (rs ++ right1) left2 right2) early later

-- ---- rows of one time

abbrev AllAt : ℕ → List Tuple → Type 0
AllAt t ts = AllByRecursion (λ (u : Tuple). u.stime ≡ t) ts

-- their greater time with another is this one
abbrev Reach : ℕ → List Tuple → Tuple → Type 0
Reach t rs l = AllByRecursion (λ (r : Tuple). max l.stime r.stime ≡ t) rs

reach-late : (t : ℕ) (l : Tuple) (rs : List Tuple) → l.stime ≤ t → AllAt t rs → Reach t rs l
reach-late t l [] h g = tt
reach-late t l (r ∷ rs) h g = (omega (arith, h, g.0), reach-late t l rs h g.1)

reach-new : (t : ℕ) (l : Tuple) (rs : List Tuple) → l.stime ≡ t → AllBelow (t + 1) rs → Reach t rs l
reach-new t l [] h g = tt
reach-new t l (r ∷ rs) h g = (omega (arith, h, g.0), reach-new t l rs h g.1)

reach-all-late : (t : ℕ) (ls rs : List Tuple) → AllBelow (t + 1) ls → AllAt t rs → AllByRecursion (Reach t rs) ls
reach-all-late t [] rs h g = tt
reach-all-late t (l ∷ ls) rs h g = (reach-late t l rs (omega (arith, h.0)) g, reach-all-late t ls rs h.1 g)

reach-all-new : (t : ℕ) (ls rs : List Tuple) → AllAt t ls → AllBelow (t + 1) rs → AllByRecursion (Reach t rs) ls
reach-all-new t [] rs h g = tt
reach-all-new t (l ∷ ls) rs h g = (reach-new t l rs h.0 g, reach-all-new t ls rs h.1 g)

at-below : (t : ℕ) (ts : List Tuple) → AllAt t ts → AllBelow (t + 1) ts
at-below t [] h = tt
at-below t (u ∷ ts) h = (omega (arith, h.0), at-below t ts h.1)

at-from : (t n : ℕ) (ts : List Tuple) → n ≤ t → AllAt t ts → NoneBelow time_of n ts
at-from t n [] up h = tt
at-from t n (u ∷ ts) up h = (omega (arith, up, h.0), at-from t n ts up h.1)

at-ordered : (t : ℕ) (ts : List Tuple) → AllAt t ts → IsOrdered time_of ts
at-ordered t [] h = tt
at-ordered t (u ∷ ts) h = (at-from t u.stime ts (omega (arith, h.0)) h.1, at-ordered t ts h.1)

module _ (w : ℕ) (keys : List (ℕ × ℕ)) where
  pairs-at : (t : ℕ) (l : Tuple) (rs : List Tuple) → Reach t rs l → AllAt t (pairs_with w keys rs l)
  pairs-at t l [] h = tt
  pairs-at t l (r ∷ rs) h = elim (are_partners w keys l r) as (λ c. AllAt t (map (paired l) (cond c (r ∷ filter (are_partners w keys l) rs) (filter (are_partners w keys l) rs)))) [
    | true ↦ (h.0, pairs-at t l rs h.1)
    | false ↦ pairs-at t l rs h.1
  ]

  rows-at : (t : ℕ) (ls rs : List Tuple) → AllByRecursion (Reach t rs) ls → AllAt t (flat_map (pairs_with w keys rs) ls)
  rows-at t [] rs h = tt
  rows-at t (l ∷ ls) rs h = all-append (λ (u : Tuple). u.stime ≡ t) (pairs_with w keys rs l) (flat_map (pairs_with w keys rs) ls) (pairs-at t l rs h.0) (rows-at t ls rs h.1)

  -- they are in order
  pub group-is : (t : ℕ) (ls rs left right : List Tuple) → AllBelow (t + 1) ls → AllBelow (t + 1) rs → AllAt t left → AllAt t right →
      bucket_rows w keys ls rs left right ≡ group_rows w keys ls rs left right
  group-is t ls rs left right hl hr nl nr =
      let late = rows-at t ls right (reach-all-late t ls right hl nr) in
      let new = rows-at t left (rs ++ right) (reach-all-new t left (rs ++ right) nl (all-append (λ (u : Tuple). u.stime < t + 1) rs right hr (at-below t right nr))) in
      sort_by-ordered time_of (group_rows w keys ls rs left right)
      (at-ordered t (group_rows w keys ls rs left right) (all-append (λ (u : Tuple). u.stime ≡ t) (flat_map (pairs_with w keys right) ls) (flat_map (pairs_with w keys (rs ++ right)) left) late new))

-- ---- inputs

abbrev pub tagged_time : Tagged → ℕ
tagged_time x = x.tuple.stime

abbrev pub TaggedBelow : ℕ → List Tagged → Type 0
TaggedBelow b xs = AllByRecursion (λ (x : Tagged). x.tuple.stime < b) xs

abbrev pub TaggedFrom : ℕ → List Tagged → Type 0
TaggedFrom b xs = AllByRecursion (λ (x : Tagged). b ≤ x.tuple.stime) xs

module _ (w : ℕ) (keys : List (ℕ × ℕ)) where
  pub inputs-more : (a b : ℕ) (ls rs : List Tuple) (xs ys : List Tagged) → a ≤ b → AllBelow a ls → AllBelow a rs → TaggedFrom a xs → TaggedBelow b xs → TaggedFrom b ys →
      bucket_rows w keys ls rs (at_port 0 (xs ++ ys)) (at_port 1 (xs ++ ys))
      ≡ bucket_rows w keys ls rs (at_port 0 xs) (at_port 1 xs) ++ bucket_rows w keys (ls ++ at_port 0 xs) (rs ++ at_port 1 xs) (at_port 0 ys) (at_port 1 ys)
  inputs-more a b ls rs xs ys up hl hr from below late =
      rw (at_port-append 0 xs ys, at_port-append 1 xs ys)
      (rows-more w keys a b ls rs (at_port 0 xs) (at_port 1 xs) (at_port 0 ys) (at_port 1 ys) up hl hr
      (at_port-all (λ (t : Tuple). t.stime < b) 0 xs below) (at_port-all (λ (t : Tuple). t.stime < b) 1 xs below)
      (at_port-all (λ (t : Tuple). a ≤ t.stime) 0 xs from) (at_port-all (λ (t : Tuple). a ≤ t.stime) 1 xs from)
      (at_port-all (λ (t : Tuple). b ≤ t.stime) 0 ys late) (at_port-all (λ (t : Tuple). b ≤ t.stime) 1 ys late))

-- ---- the inputs that were taken

-- so many are those below a time
pub record Reached (ls rs : List Tuple) (xs : List Tagged) (done : ℕ) : Type 0 where
  pub after : ComesAfter ls rs xs
  pub bound : ℕ
  pub up : after.begin ≤ bound
  pub count : done ≡ tagged_below bound xs

module _ {X : Type 0} where
  all-take : (P : X → Type 0) (n : ℕ) (xs : List X) → AllByRecursion P xs → AllByRecursion P (take n xs)
  all-take P zero xs h = tt
  all-take P (suc n) [] h = tt
  all-take P (suc n) (x ∷ xs) h = (h.0, all-take P n xs h.1)

  all-behind : (P : X → Type 0) (xs ys : List X) → AllByRecursion P (xs ++ ys) → AllByRecursion P ys
  all-behind P [] ys h = h
  all-behind P (x ∷ xs) ys h = all-behind P xs ys h.1

  all-kept : (P : X → Type 0) (p : X → Bool) (xs : List X) → AllByRecursion P xs → AllByRecursion P (filter p xs)
  all-kept P p [] h = tt
  all-kept P p (x ∷ xs) h =
      elim (p x) as (λ c. AllByRecursion P (cond c (x ∷ filter p xs) (filter p xs))) [
        | true ↦ (h.0, all-kept P p xs h.1)
        | false ↦ all-kept P p xs h.1
      ]

  take-split : (i j : ℕ) (xs : List X) → i ≤ j → take j xs ≡ take i xs ++ take (j - i) (drop i xs)
  take-split zero j xs h = let e : j - 0 ≡ j = omega arith in rw e refl
  take-split (suc i) zero xs h = absurd (omega (arith, h))
  take-split (suc i) (suc j) [] h = none (suc j - suc i)
    where
      none : (n : ℕ) → [] ≡ take {A = X} n []
      none zero = refl
      none (suc n) = refl
  take-split (suc i) (suc j) (x ∷ xs) h = let e : suc j - suc i ≡ j - i = omega arith in rw e (ap (λ (ys : List X). x ∷ ys) (take-split i j xs (omega (arith, h))))

below-those : (b : ℕ) (xs : List Tagged) → TaggedBelow b (those_below tagged_time b xs)
below-those b [] = tt
below-those b (x ∷ xs) =
    (elim (nat_lt x.tuple.stime b) as (λ c. nat_lt x.tuple.stime b ≡ c → TaggedBelow b (cond c (x ∷ those_below tagged_time b xs) (those_below tagged_time b xs))) [
      | true ↦ λ e. (ltb-true x.tuple.stime b e, below-those b xs)
      | false ↦ λ e. below-those b xs
    ]) refl

from-those : (b : ℕ) (xs : List Tagged) → TaggedFrom b (those_from tagged_time b xs)
from-those b [] = tt
from-those b (x ∷ xs) =
    (elim (nat_le b x.tuple.stime) as (λ c. nat_le b x.tuple.stime ≡ c → TaggedFrom b (cond c (x ∷ those_from tagged_time b xs) (those_from tagged_time b xs))) [
      | true ↦ λ e. let low : b ≤ x.tuple.stime = grind (arith, common_steps) in (low, from-those b xs)
      | false ↦ λ e. from-those b xs
    ]) refl

none-from : (n : ℕ) (xs : List Tagged) → NoneBelow tagged_time n xs → TaggedFrom n xs
none-from n [] h = tt
none-from n (x ∷ xs) h = (h.0, none-from n xs h.1)

at-one : (t : ℕ) (xs : List Tagged) → TaggedFrom t xs → TaggedBelow (t + 1) xs → AllByRecursion (λ (x : Tagged). x.tuple.stime ≡ t) xs
at-one t [] h g = tt
at-one t (x ∷ xs) h g = (omega (arith, h.0, g.0), at-one t xs h.1 g.1)

module _ (w : ℕ) (keys : List (ℕ × ℕ)) (ls rs : List Tuple) (xs : List Tagged) where
  abbrev pub rows_of : List Tagged → List Tuple
  rows_of ys = bucket_rows w keys ls rs (at_port 0 ys) (at_port 1 ys)

  pub reached-none : ComesAfter ls rs xs → Reached ls rs xs 0
  reached-none after = record { after = after; bound = after.begin; up = omega arith; count = sym (ap (λ (ys : List Tagged). length ys) (none-below-all after.begin xs after.inputs)) }
    where
      none-below-all : (b : ℕ) (ys : List Tagged) → TaggedFrom b ys → those_below tagged_time b ys ≡ []
      none-below-all b [] h = refl
      none-below-all b (y ∷ ys) h = let late : nat_lt y.tuple.stime b ≡ false = grind (arith, common_steps, h.0) in rw late (none-below-all b ys h.1)

  module _ (done : ℕ) (r : Reached ls rs xs done) where
    abbrev a : ℕ
    a = r.after.begin

    abbrev b : ℕ
    b = r.bound

    taken-below : TaggedBelow b (take done xs)
    taken-below = subst (λ (ys : List Tagged). TaggedBelow b ys) (sym (ap (λ n. take n xs) r.count ∙ below-take tagged_time b xs r.after.ordered)) (below-those b xs)

    taken-from : TaggedFrom a (take done xs)
    taken-from = all-take (λ (x : Tagged). a ≤ x.tuple.stime) done xs r.after.inputs

    left-is : drop done xs ≡ those_from tagged_time b xs
    left-is = ap (λ n. drop n xs) r.count ∙ from-drop tagged_time b xs r.after.ordered

    left-from : TaggedFrom b (drop done xs)
    left-from = subst (λ (ys : List Tagged). TaggedFrom b ys) (sym left-is) (from-those b xs)

    -- the rows of those that were taken are a beginning of all
    pub reached-rest : (more : List Tuple) × (rows_of xs ≡ rows_of (take done xs) ++ more)
    reached-rest = (
      bucket_rows w keys (ls ++ at_port 0 (take done xs)) (rs ++ at_port 1 (take done xs)) (at_port 0 (drop done xs)) (at_port 1 (drop done xs)),
      ap rows_of (sym (take-append-drop done xs)) ∙ inputs-more w keys a b ls rs (take done xs) (drop done xs) r.up r.after.left r.after.right taken-from taken-below left-from,
    )

    module _ (x : Tagged) (next : ℕ) (low : done < length xs) (at : x ≡ get_or xs done x) (count : next ≡ tagged_below (x.tuple.stime + 1) xs) where
      abbrev t : ℕ
      t = x.tuple.stime

      abbrev slice : List Tagged
      slice = take (next - done) (drop done xs)

      first-is : drop done xs ≡ x ∷ drop (done + 1) xs
      first-is = drop-next xs done x low ∙ ap (λ (y : Tagged). y ∷ drop (done + 1) xs) (sym at)

      late : b ≤ t
      late = (rw first-is at left-from).0

      -- some are
      pub group-some : done < next
      group-some =
          let more = count-more tagged_time xs done (t + 1) x r.after.ordered low (subst (λ (y : Tagged). y.tuple.stime < t + 1) at (omega arith)) in
          omega (arith, more, count)

      -- those that are taken next
      pub group-taken : take next xs ≡ take done xs ++ slice
      group-taken = take-split done next xs (omega (arith, group-some))

      pub group-reached : Reached ls rs xs next
      group-reached = record { after = r.after; bound = t + 1; up = omega (arith, r.up, late); count = count }

      slice-below : TaggedBelow (t + 1) slice
      slice-below =
          all-behind (λ (y : Tagged). y.tuple.stime < t + 1) (take done xs) slice
          (subst (λ (ys : List Tagged). TaggedBelow (t + 1) ys) (sym (ap (λ n. take n xs) count ∙ below-take tagged_time (t + 1) xs r.after.ordered) ∙ group-taken) (below-those (t + 1) xs))

      slice-from : TaggedFrom t slice
      slice-from =
          let order : IsOrdered tagged_time (drop done xs) = subst (λ (ys : List Tagged). IsOrdered tagged_time ys) (sym left-is) (IsOrdered-filter tagged_time (λ (y : Tagged). nat_le b y.tuple.stime) xs r.after.ordered) in
          let order-first = rw first-is at order in
          all-take (λ (y : Tagged). t ≤ y.tuple.stime) (next - done) (drop done xs) (rw first-is (omega arith, none-from t (drop (done + 1) xs) order-first.0))

      slice-at : AllByRecursion (λ (y : Tagged). y.tuple.stime ≡ t) slice
      slice-at = at-one t slice slice-from slice-below

      before-below : (p : ℕ) (ts : List Tuple) → AllBelow a ts → AllBelow (t + 1) (ts ++ at_port p (take done xs))
      before-below p ts h =
          all-append (λ (u : Tuple). u.stime < t + 1) ts (at_port p (take done xs)) (all-below a (t + 1) ts (omega (arith, r.up, late)) h)
          (all-below b (t + 1) (at_port p (take done xs)) (omega (arith, late)) (at_port-all (λ (u : Tuple). u.stime < b) p (take done xs) taken-below))

      -- the rows that they add
      pub group-adds : rows_of (take next xs)
          ≡ rows_of (take done xs) ++ group_rows w keys (ls ++ at_port 0 (take done xs)) (rs ++ at_port 1 (take done xs)) (at_port 0 slice) (at_port 1 slice)
      group-adds =
          ap rows_of group-taken
          ∙ inputs-more w keys a b ls rs (take done xs) slice r.up r.after.left r.after.right taken-from taken-below
          (all-take (λ (y : Tagged). b ≤ y.tuple.stime) (next - done) (drop done xs) left-from)
          ∙ ap (λ (ts : List Tuple). rows_of (take done xs) ++ ts)
          (group-is w keys t (ls ++ at_port 0 (take done xs)) (rs ++ at_port 1 (take done xs)) (at_port 0 slice) (at_port 1 slice)
          (before-below 0 ls r.after.left) (before-below 1 rs r.after.right)
          (at_port-all (λ (u : Tuple). u.stime ≡ t) 0 slice slice-at) (at_port-all (λ (u : Tuple). u.stime ≡ t) 1 slice slice-at))
