-- One stream made of what two readers of one stream hold.
use Rattle.std.specs.Prelude.{◌≡◌, ◌⊎◌, ℕ, ◌==◌, ◌&&◌, nat_lt, nat_le, Bool, true, false, if◌then◌else◌, List, [], ◌∷◌, ◌++◌, filter, length, take, drop, Option, Some, None, max}
use Rattle.std.specs.Ordering.{int_eq}
use Rattle.std.specs.Cmp.Lexicographic.{pointwise}
use Rattle.dpc_lists.specs.Lists.{is_nil}
use Rattle.dpc_model.specs.Reading.{Reader, Folded, fold_items}
use Rattle.dpc_model.specs.Sessions.{stable_items, tentative_items}
use Rattle.dpc_model.specs.Streams.{cut}
use Rattle.dpc_model.specs.declared.tuples.Item.{Item}
use Rattle.dpc_model.specs.declared.tuples.Item.TheVariants.{Boundary, Undo, RecDone}
use Rattle.dpc_model.specs.declared.tuples.Tuple.{Tuple}

-- ---- the merge of two readers

-- what is told of both: stable tuples, up to where they are known to be all, and tentative ones
pub record Merged : Type 0 where
  pub stable : List Tuple
  pub bound : ℕ
  pub tentative : List Tuple

abbrev pub longer : List Tuple → List Tuple → List Tuple
longer xs ys = if nat_lt (length xs) (length ys) then ys else xs

-- the tuples that are not below a time
abbrev pub not_below : ℕ → List Tuple → List Tuple
not_below b ts = filter (λ t. nat_le b t.stime) ts

-- the time of the last tuple
abbrev pub last_time : List Tuple → Option ℕ
last_time [] = None
last_time (t ∷ []) = Some t.stime
last_time (t ∷ u ∷ ts) = last_time (u ∷ ts)

-- whether a time is greater; none is less than any
abbrev pub is_later : Option ℕ → Option ℕ → Bool
is_later None y = false
is_later (Some x) None = true
is_later (Some x) (Some y) = nat_lt y x

-- of two lists the second one where its last tuple is later, else the first one
abbrev pub fresher : List Tuple → List Tuple → List Tuple
fresher ts us = if is_later (last_time us) (last_time ts) then us else ts

-- the longer stable list, the greater bound, and of the tentative tuples that are not below that bound those that go further
abbrev pub merge : Reader → Reader → Merged
merge x y =
    let b = max x.bound y.bound in
    record { stable = longer x.stable y.stable; bound = b; tentative = fresher (not_below b x.tentative) (not_below b y.tentative) }

-- ---- the items from one merge to a later one

abbrev pub same_tuple : Tuple → Tuple → Bool
same_tuple t u = t.stime == u.stime && pointwise int_eq t.vals u.vals

-- whether a list begins with these tuples
abbrev pub begins_with : List Tuple → List Tuple → Bool
begins_with [] ts = true
begins_with (s ∷ ss) [] = false
begins_with (s ∷ ss) (t ∷ ts) = same_tuple s t && begins_with ss ts

-- nothing stable came, the bound stands, and tentative tuples came at most behind those that were told
abbrev pub only_grows : Merged → Merged → Bool
only_grows old new = length old.stable == length new.stable && old.bound == new.bound && begins_with old.tentative new.tentative

abbrev pub undone : Merged → List Item
undone old = if is_nil old.tentative then [] else Undo (length old.stable) ∷ []

abbrev pub bound_told : Merged → Merged → List Item
bound_told old new = if nat_lt old.bound new.bound then Boundary new.bound (length (cut new.stable new.bound)) ∷ [] else []

abbrev pub done_told : Merged → Merged → List Item
done_told old new = if is_nil old.tentative then [] else (if is_nil new.tentative then RecDone ∷ [] else [])

-- what is told where the old tentative tuples go
abbrev pub told_anew : Merged → Merged → List Item
told_anew old new =
    undone old ++ stable_items (length old.stable) (drop (length old.stable) new.stable) ++ bound_told old new ++ tentative_items new.tentative ++ done_told old new

abbrev pub items_between : Merged → Merged → List Item
items_between old new =
    if only_grows old new then tentative_items (drop (length old.tentative) new.tentative) else told_anew old new

-- ---- readers of one stream

-- one of two lists begins with the other
abbrev pub OneBegins : List Tuple → List Tuple → Type 0
OneBegins xs ys = (xs ≡ take (length xs) ys) ⊎ (ys ≡ take (length ys) xs)

-- the items have a reading at a reader, and leave this one
abbrev pub Leaves : Reader → List Item → Reader → Type 0
Leaves r items s = (f : Folded) × (fold_items r items ≡ Some f) × (f.after ≡ s)
