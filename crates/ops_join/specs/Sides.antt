-- The sides of a join: their tuples, and the chains that find them by their key.
use Rattle.std.specs.Prelude.{◌≡◌, ℕ, ◌+◌, ◌-◌, ◌*◌, ◌/◌, ◌^◌, ◌≤◌, max, ℤ, Bool, false, not, ◌==◌, nat_le, if◌then◌else◌, Some, List, [], ◌∷◌, ◌++◌, map, flat_map, length, take, slice_get, slice_index_or, bit_and, bit_xor}
use Rattle.std.specs.Int.{w64, cast_unsigned}
use Rattle.std.specs.List.{fold}
use Rattle.std.specs.Option.{option_to_list}
use Rattle.dpc_lists.specs.Lists.{sort_by}
use Rattle.dpc_model.specs.Values.{column}
use Rattle.dpc_model.specs.Operators.{are_partners, paired, pairs_with}
use Rattle.dpc_model.specs.declared.tuples.Tuple.{Tuple}
use Rattle.ops_join.specs.declared.ends.End.{End}
use Rattle.ops_join.specs.declared.ends.End.TheVariants.{Left, Right}

-- the port by which the tuples of a side come
abbrev pub port_of : End → ℕ
port_of Left = 0
port_of Right = 1

abbrev pub other_end : End → End
other_end Left = Right
other_end Right = Left

-- the column that a side has in a pair of key columns
abbrev pub column_of : End → ℕ × ℕ → ℕ
column_of Left pair = pair.0
column_of Right pair = pair.1

-- the two halves of a product, joined
unfoldable pub folded : ℕ → ℕ
folded word = let product = word * 0xd6e8_feb8_6659_fd93 in bit_xor (bit_and product 0xffff_ffff_ffff_ffff) (product / 2 ^ 64)

-- one more value in a number that stands for values
abbrev pub mix : ℕ → ℤ → ℕ
mix h v = folded (bit_xor h (cast_unsigned w64 v))

-- the number that stands for the values of a tuple's key columns
abbrev pub code_of : End → List (ℕ × ℕ) → Tuple → ℕ
code_of end keys t = fold (λ (h : ℕ) (pair : ℕ × ℕ). mix h (column t (column_of end pair))) 0 keys

-- the slot of such a number, where there are n slots
abbrev pub slot_at : ℕ → ℕ → ℕ
slot_at n h = bit_and h (n - 1)

-- whether a tuple of the other side and one of this side are partners
abbrev pub is_partner : End → ℕ → List (ℕ × ℕ) → Tuple → Tuple → Bool
is_partner Left within keys of t = are_partners within keys t of
is_partner Right within keys of t = are_partners within keys of t

-- the places of the elements that pass a test, where the first one's is n
abbrev pub places_from : {X : Type 0} → (X → Bool) → ℕ → List X → List ℕ
places_from test n [] = []
places_from test n (x ∷ xs) = if test x then n ∷ places_from test (n + 1) xs else places_from test (n + 1) xs

-- the elements at these places
abbrev pub at_places : {X : Type 0} → List X → List ℕ → List X
at_places xs ps = flat_map (λ p. option_to_list (slice_get xs p)) ps

-- the number behind that of the last element that passes a test, where the first one's is n; d without one
abbrev pub last_from : {X : Type 0} → (X → Bool) → ℕ → ℕ → List X → ℕ
last_from test n d [] = d
last_from test n d (x ∷ xs) = last_from test (n + 1) (if test x then n + 1 else d) xs

-- of the elements, which are numbered from n on, each leads to the one before it in its slot, and each slot up to the top one
-- to its last; links of at most n lead to none
pub record AreChains {X : Type 0} (slot : X → ℕ) (top n : ℕ) (xs : List X) (heads before : List ℕ) : Type 0 where
  pub many : length before ≡ length xs
  pub last : (s : ℕ) → s ≤ top → max n (slice_index_or heads s 0) ≡ last_from (λ x. slot x == s) n n xs
  pub back : (i : ℕ) (x : X) → slice_get xs i ≡ Some x → max n (slice_index_or before i 0) ≡ last_from (λ y. slot y == slot x) n n (take i xs)

-- the slot of a tuple, where there are so many slots
abbrev pub slot_of : End → List (ℕ × ℕ) → ℕ → Tuple → ℕ
slot_of end keys slots t = slot_at slots (code_of end keys t)

-- the chains of these tuples, which are numbered from n on, by their keys
pub record IsIndexOf (end : End) (keys : List (ℕ × ℕ)) (n : ℕ) (ts : List Tuple) (heads before : List ℕ) : Type 0 where
  pub chains : AreChains (slot_of end keys (length heads)) (length heads - 1) n ts heads before

-- the places of the pairs that pass a test, in order of the right place and then of the left one; the first right one's is n
abbrev pub pairs_by_right : {X Y : Type 0} → (X → Y → Bool) → List X → ℕ → List Y → List (ℕ × ℕ)
pairs_by_right test xs n [] = []
pairs_by_right test xs n (y ∷ ys) = map (λ p. (p, n)) (places_from (λ x. test x y) 0 xs) ++ pairs_by_right test xs (n + 1) ys

-- the row of a pair of places
abbrev pub row_at : List Tuple → List Tuple → ℕ × ℕ → List Tuple
row_at ls rs pair = flat_map (λ l. map (paired l) (option_to_list (slice_get rs pair.1))) (option_to_list (slice_get ls pair.0))

-- what contracts see of the sides: the key columns of left and right, and the tuples of each side
pub record SidesState : Type 0 where
  pub keys : List (ℕ × ℕ)
  pub left : List Tuple
  pub right : List Tuple

-- sides with no tuple
abbrev pub new_sides : List (ℕ × ℕ) → SidesState
new_sides keys = record { keys = keys; left = []; right = [] }

abbrev pub tuples_of : End → SidesState → List Tuple
tuples_of Left s = s.left
tuples_of Right s = s.right

-- the sides with more tuples on one of them
abbrev pub taken : End → List Tuple → SidesState → SidesState
taken Left ts s = record s { left = s.left ++ ts }
taken Right ts s = record s { right = s.right ++ ts }

-- the rows that the tuples of a bucket add to those of the tuples before it, which a join keeps
abbrev pub bucket_rows : ℕ → List (ℕ × ℕ) → List Tuple → List Tuple → List Tuple → List Tuple → List Tuple
bucket_rows within keys ls rs left right =
    sort_by (λ (t : Tuple). t.stime) (flat_map (pairs_with within keys right) ls ++ flat_map (pairs_with within keys (rs ++ right)) left)

-- the first tuple can meet no partner from a time on
abbrev pub is_over : ℕ → ℕ → List Tuple → Bool
is_over within begin [] = false
is_over within begin (t ∷ ts) = not (nat_le begin (t.stime + within))
