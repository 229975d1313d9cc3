-- Where the tuples come from that are told.
use Rattle.std.proofs.Common.{◌≡◌, ◌⊎◌, inl, inr, ℕ, ◌+◌, max, nat_lt, nat_le, true, false, cond, List, [], ◌∷◌, ◌++◌, length, take, drop, Some, refl, sym, ap, subst, ◌∙◌}
use Rattle.std.specs.Bool.{⊤}
use Rattle.std.specs.List.{All, Contains, slice_get}
use Rattle.std.proofs.lemmas.List.{append_assoc, length_push}
use Rattle.std.proofs.lemmas.List.Elements.{All-nil, All-cons, All-append, All-contains, All-map, All-drop, All-filter, All-contains_itself}
use Rattle.dpc_lists.specs.Lists.{is_nil}
use Rattle.dpc_model.specs.Reading.{Reader}
use Rattle.dpc_model.specs.Sessions.{stable_items, tentative_items}
use Rattle.dpc_model.specs.Streams.{cut}
use Rattle.dpc_model.specs.declared.tuples.Item.{Item}
use Rattle.dpc_model.specs.declared.tuples.Item.TheVariants.{Stable, Tentative, Passed, Boundary, Undo, RecDone}
use Rattle.dpc_model.specs.declared.tuples.Tuple.{Tuple}
use Rattle.back_channel.specs.Merging.{Merged, merge, not_below, is_later, last_time, OneBegins, only_grows, undone, bound_told, done_told, told_anew, items_between}
use Rattle.back_channel.specs.Told.{Goes, IsLater, IsOfOne}
use Rattle.back_channel.proofs.Beginnings.{Begins, begins-split, longer-begins}
use Rattle.back_channel.proofs.Onward.{goes-on}

-- the tuple of an item is one of a merge, and a boundary is that of the merge
abbrev IsFrom : Merged → Item → Type 0
IsFrom new (Stable k t) = slice_get new.stable k ≡ Some t
IsFrom new (Tentative t) = Contains new.tentative t
IsFrom new (Passed b) = ⊤
IsFrom new (Boundary b m) = (b ≡ new.bound) × (m ≡ length (cut new.stable b))
IsFrom new (Undo n) = ⊤
IsFrom new RecDone = ⊤

get-behind : (us : List Tuple) (t : Tuple) (ts : List Tuple) → slice_get (us ++ t ∷ ts) (length us) ≡ Some t
get-behind [] t ts = refl
get-behind (u ∷ us) t ts = get-behind us t ts

from-stable : (new : Merged) (before us : List Tuple) → new.stable ≡ before ++ us → All (IsFrom new) (stable_items (length before) us)
from-stable new before [] e = All-nil (IsFrom new)
from-stable new before (u ∷ us) e =
    let long : length (before ++ u ∷ []) ≡ length before + 1 = length_push before u in
    All-cons (IsFrom new) (Stable (length before) u) (stable_items (length before + 1) us)
    (ap (λ ts. slice_get ts (length before)) e ∙ get-behind before u us)
    (subst (λ (k : ℕ). All (IsFrom new) (stable_items k us)) long
    (from-stable new (before ++ u ∷ []) us (e ∙ sym (append_assoc before (u ∷ []) us))))

from-tentative : (new : Merged) (us : List Tuple) → All (Contains new.tentative) us → All (IsFrom new) (tentative_items us)
from-tentative new us all = All-map (IsFrom new) Tentative us all

from-one : (new : Merged) (i : Item) → IsFrom new i → All (IsFrom new) (i ∷ [])
from-one new i h = All-cons (IsFrom new) i [] h (All-nil (IsFrom new))

from-undone : (old new : Merged) → All (IsFrom new) (undone old)
from-undone old new = elim (is_nil old.tentative) as (λ c. All (IsFrom new) (cond c [] (Undo (length old.stable) ∷ []))) [
  | true ↦ All-nil (IsFrom new)
  | false ↦ from-one new (Undo (length old.stable)) tt
]

from-bound : (old new : Merged) → All (IsFrom new) (bound_told old new)
from-bound old new = elim (nat_lt old.bound new.bound) as (λ c. All (IsFrom new) (cond c (Boundary new.bound (length (cut new.stable new.bound)) ∷ []) [])) [
  | true ↦ from-one new (Boundary new.bound (length (cut new.stable new.bound))) (refl, refl)
  | false ↦ All-nil (IsFrom new)
]

from-done : (old new : Merged) → All (IsFrom new) (done_told old new)
from-done old new = elim (is_nil old.tentative) as (λ c. All (IsFrom new) (cond c [] (cond (is_nil new.tentative) (RecDone ∷ []) []))) [
  | true ↦ All-nil (IsFrom new)
  | false ↦ elim (is_nil new.tentative) as (λ c. All (IsFrom new) (cond c (RecDone ∷ []) [])) [
    | true ↦ from-one new RecDone tt
    | false ↦ All-nil (IsFrom new)
  ]
]

from-told : (old new : Merged) → IsLater old new → All (IsFrom new) (told_anew old new)
from-told old new h =
    let P = IsFrom new in
    let stable = stable_items (length old.stable) (drop (length old.stable) new.stable) in
    let stays : Begins old.stable new.stable = record { is = h.stays } in
    let stable-from = from-stable new old.stable (drop (length old.stable) new.stable) (begins-split old.stable new.stable stays) in
    All-append P (undone old ++ stable ++ bound_told old new ++ tentative_items new.tentative) (done_told old new)
    (All-append P (undone old ++ stable ++ bound_told old new) (tentative_items new.tentative)
    (All-append P (undone old ++ stable) (bound_told old new) (All-append P (undone old) stable (from-undone old new) stable-from) (from-bound old new))
    (from-tentative new new.tentative (All-contains_itself new.tentative)))
    (from-done old new)

from-between : (old new : Merged) → IsLater old new → All (IsFrom new) (items_between old new)
from-between old new h =
    elim (only_grows old new) as (λ c. All (IsFrom new) (cond c (tentative_items (drop (length old.tentative) new.tentative)) (told_anew old new))) [
      | true ↦ from-tentative new (drop (length old.tentative) new.tentative) (All-drop (Contains new.tentative) (length old.tentative) new.tentative (All-contains_itself new.tentative))
      | false ↦ from-told old new h
    ]

kept-contains : (b : ℕ) (ts : List Tuple) (t : Tuple) → Contains (not_below b ts) t → Contains ts t
kept-contains b ts t h = All-contains (Contains ts) (not_below b ts) t (All-filter (λ (u : Tuple). nat_le b u.stime) (Contains ts) ts (All-contains_itself ts)) h

of-merge : (x y : Reader) (i : Item) → IsFrom (merge x y) i → IsOfOne x y i
of-merge x y (Stable k t) =
    elim (nat_lt (length x.stable) (length y.stable)) as (λ c. slice_get (cond c y.stable x.stable) k ≡ Some t → (slice_get x.stable k ≡ Some t) ⊎ (slice_get y.stable k ≡ Some t)) [
      | true ↦ λ e. inr e
      | false ↦ λ e. inl e
    ]
of-merge x y (Tentative t) =
    let b = max x.bound y.bound in
    elim (is_later (last_time (not_below b y.tentative)) (last_time (not_below b x.tentative))) as (λ c. Contains (cond c (not_below b y.tentative) (not_below b x.tentative)) t → Contains x.tentative t ⊎ Contains y.tentative t) [
      | true ↦ λ e. inr (kept-contains b y.tentative t e)
      | false ↦ λ e. inl (kept-contains b x.tentative t e)
    ]
of-merge x y (Passed b) = λ h. tt
of-merge x y (Boundary b m) = λ h. h
of-merge x y (Undo n) = λ h. tt
of-merge x y RecDone = λ h. tt

pub told-of-one : (x y x' y' : Reader) (i : Item) → Goes x x' → Goes y y' → OneBegins x.stable y.stable → OneBegins x'.stable y'.stable
    → Contains (items_between (merge x y) (merge x' y')) i → IsOfOne x' y' i
told-of-one x y x' y' i g k o o' h =
    let new = merge x' y' in
    of-merge x' y' i (All-contains (IsFrom new) (items_between (merge x y) new) i (from-between (merge x y) new (goes-on x y x' y' g k o o')) h)

pub merge-begins : (x y : Reader) (ts : List Tuple) → x.stable ≡ take (length x.stable) ts → y.stable ≡ take (length y.stable) ts
    → (merge x y).stable ≡ take (length (merge x y).stable) ts
merge-begins x y ts h k = (longer-begins x.stable y.stable ts (record { is = h }) (record { is = k })).is
