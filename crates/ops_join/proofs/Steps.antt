-- Steps of the loops that gather pairs and rows.
use Rattle.std.proofs.Common.{◌≡◌, ℕ, zero, suc, ◌+◌, ◌-◌, ◌<◌, ◌≤◌, Bool, List, [], ◌∷◌, ◌++◌, map, length, drop, take, get_or, set, reverse, append_assoc, Some, All, refl, ◌∙◌, ap, arith}
use Rattle.std.proofs.lemmas.Grind.{flat_map-append}
use Rattle.std.proofs.lemmas.List.{append-nil, take_more, length-take-le, length-set, reverse-append, reverse-reverse}
use Rattle.std.proofs.lemmas.List.Elements.{All-from_recursion}
use Rattle.std.specs.List.{flat_map, slice_get}
use Rattle.dpc_lists.specs.Lists.{sort_by}
use Rattle.dpc_model.specs.Operators.{are_partners, paired, pairs_with}
use Rattle.dpc_model.specs.declared.tuples.Tuple.{Tuple}
use Rattle.ops_join.specs.declared.ends.End.{End}
use Rattle.ops_join.specs.Sides.{code_of, slot_at, slot_of, places_from, at_places, pairs_by_right, row_at, IsIndexOf}
use Rattle.ops_join.proofs.Codes.{slot-below}
use Rattle.ops_join.proofs.Places.{pairs_by_left, places-below, at_places-is, by_left-is, row-one}
use Rattle.ops_join.proofs.Walks.{one-more, AreChains-push}

-- ---- chains

-- a tuple that came last
pub IsIndexOf-push : (end : End) (keys : List (ℕ × ℕ)) (n m code : ℕ) (ts us : List Tuple) (t : Tuple) (heads more before links : List ℕ) → 0 < length heads → code ≡ code_of end keys t → m ≡ n + length ts + 1 →
    us ≡ ts ++ t ∷ [] → more ≡ set heads (slot_at (length heads) code) m → links ≡ before ++ get_or heads (slot_at (length heads) code) 0 ∷ [] → IsIndexOf end keys n ts heads before →
    IsIndexOf end keys n us more links
IsIndexOf-push end keys n m code ts us t heads more before links some is number last first next i =
    let slots = length heads in
    let slot = slot_of end keys slots in
    let heads_are : more ≡ set heads (slot t) m = first ∙ ap (λ c. set heads (slot_at slots c) m) is in
    let links_are : links ≡ before ++ get_or heads (slot t) 0 ∷ [] = next ∙ ap (λ c. before ++ get_or heads (slot_at slots c) 0 ∷ []) is in
    let many : length more ≡ slots = ap (λ (hs : List ℕ). length hs) heads_are ∙ length-set heads (slot t) m in
    let below = slot-below slots (code_of end keys t) in
    record {
      chains =
          rw (many, last, heads_are, links_are)
          (AreChains-push slot (slots - 1) n m ts t heads before (omega (arith, some, below)) below number i.chains);
    }

-- ---- pairs

pub drop-at : {X : Type 0} (xs : List X) (i : ℕ) (x : X) → slice_get xs i ≡ Some x → drop i xs ≡ x ∷ drop (i + 1) xs
drop-at [] i x h = absurd (cc)
drop-at (y ∷ xs) zero x h = let e : y ≡ x = cc in rw e refl
drop-at (y ∷ xs) (suc i) x h = let e : suc i + 1 ≡ suc (i + 1) = omega arith in rw e (drop-at xs i x h)

pub late-step : {X Y : Type 0} (test : X → Y → Bool) (xs : List X) (ys : List Y) (i : ℕ) (y : Y) (found : List ℕ) (old new all : List (ℕ × ℕ)) → slice_get ys i ≡ Some y → found ≡ reverse (places_from (λ x. test x y) 0 xs) →
    new ≡ old ++ map (λ p. (p, i)) (reverse found) → old ++ pairs_by_right test xs i (drop i ys) ≡ all → new ++ pairs_by_right test xs (i + 1) (drop (i + 1) ys) ≡ all
late-step test xs ys i y found old new all here are added h =
    let places : reverse found ≡ places_from (λ x. test x y) 0 xs = ap reverse are ∙ reverse-reverse (places_from (λ x. test x y) 0 xs) in
    let whole : old ++ (map (λ p. (p, i)) (places_from (λ x. test x y) 0 xs) ++ pairs_by_right test xs (i + 1) (drop (i + 1) ys)) ≡ all = rw (drop-at ys i y here) at h in
    rw (added, places) (append_assoc old (map (λ p. (p, i)) (places_from (λ x. test x y) 0 xs)) (pairs_by_right test xs (i + 1) (drop (i + 1) ys)) ∙ whole)

pub late-are : (w : ℕ) (keys : List (ℕ × ℕ)) (ls rs : List Tuple) (from : ℕ) (pairs sorted slice : List (ℕ × ℕ)) → pairs ≡ pairs_by_right (are_partners w keys) ls from (drop from rs) →
    sorted ≡ sort_by (λ (pair : ℕ × ℕ). pair.0) pairs → slice ≡ sorted → slice ≡ pairs_by_left (are_partners w keys) 0 ls from (drop from rs)
late-are w keys ls rs from pairs sorted slice are up same = same ∙ up ∙ ap (sort_by (λ (pair : ℕ × ℕ). pair.0)) are ∙ by_left-is (are_partners w keys) from ls (drop from rs)

-- ---- rows

pub rows-step : (ls rs : List Tuple) (pairs : List (ℕ × ℕ)) (i : ℕ) (l r row : Tuple) (old new : List Tuple) → i < length pairs → slice_get ls (get_or pairs i (0, 0)).0 ≡ Some l → slice_get rs (get_or pairs i (0, 0)).1 ≡ Some r →
    row ≡ paired l r → new ≡ old ++ row ∷ [] → old ≡ flat_map (row_at ls rs) (take i pairs) → new ≡ flat_map (row_at ls rs) (take (i + 1) pairs)
rows-step ls rs pairs i l r row old new low at_left at_right is pushed h =
    let pair = get_or pairs i (0, 0) in
    let one : row_at ls rs pair ++ [] ≡ row ∷ [] = append-nil (row_at ls rs pair) ∙ rw is (row-one ls rs pair l r at_left at_right) in
    let more : flat_map (row_at ls rs) (take (i + 1) pairs) ≡ flat_map (row_at ls rs) (take i pairs) ++ row ∷ [] =
    ap (λ (ps : List (ℕ × ℕ)). flat_map (row_at ls rs) ps) (take_more pairs i (0, 0) low) ∙ flat_map-append (row_at ls rs) (take i pairs) (pair ∷ [])
    ∙ ap (λ (ts : List Tuple). flat_map (row_at ls rs) (take i pairs) ++ ts) one
    in
    rw (more, pushed, h) refl

-- the last place, taken out
pub turned : (old rest : List ℕ) (p : ℕ) → old ≡ rest ++ p ∷ [] → reverse old ≡ p ∷ reverse rest
turned old rest p e = rw e (reverse-append rest (p ∷ []))

pub rows-pop : {X Y : Type 0} (f : X → Y) (xs : List X) (rows new all : List Y) (ps qs : List ℕ) (p : ℕ) (x : X) (y : Y) → ps ≡ p ∷ qs → slice_get xs p ≡ Some x → y ≡ f x → new ≡ rows ++ y ∷ [] →
    rows ++ map f (at_places xs ps) ≡ all → new ++ map f (at_places xs qs) ≡ all
rows-pop f xs rows new all ps qs p x y are here is pushed h =
    let first : at_places xs ps ≡ x ∷ at_places xs qs = rw (are, here) refl in
    let whole : rows ++ (f x ∷ map f (at_places xs qs)) ≡ all = rw first at h in
    rw (pushed, is) (append_assoc rows (f x ∷ []) (map f (at_places xs qs)) ∙ whole)

pub places-inside : {X : Type 0} (test : X → Bool) (xs : List X) (found : List ℕ) → found ≡ reverse (places_from test 0 xs) → All (λ p. p < length xs) (reverse found)
places-inside test xs found are =
    let places : reverse found ≡ places_from test 0 xs = ap reverse are ∙ reverse-reverse (places_from test 0 xs) in
    rw places (All-from_recursion (λ p. p < length xs) (places_from test 0 xs) (places-below test 0 (length xs) xs (omega arith)))

drop-last : {X : Type 0} (n : ℕ) (xs : List X) (x : X) → n ≤ length xs → drop n (xs ++ x ∷ []) ≡ drop n xs ++ x ∷ []
drop-last zero xs x h = refl
drop-last (suc n) [] x h = absurd (omega (arith, h))
drop-last (suc n) (y ∷ xs) x h = drop-last n xs x (omega (arith, h))

pub new-step : (w : ℕ) (keys : List (ℕ × ℕ)) (ls rs : List Tuple) (from i : ℕ) (l : Tuple) (found : List ℕ) (old new first : List Tuple) → from ≤ i → i < length ls → slice_get ls i ≡ Some l →
    found ≡ reverse (places_from (are_partners w keys l) 0 rs) → new ≡ old ++ map (paired l) (at_places rs (reverse found)) → old ≡ first ++ flat_map (pairs_with w keys rs) (drop from (take i ls)) →
    new ≡ first ++ flat_map (pairs_with w keys rs) (drop from (take (i + 1) ls))
new-step w keys ls rs from i l found old new first low high here are added h =
    let f = pairs_with w keys rs in
    let places : reverse found ≡ places_from (are_partners w keys l) 0 rs = ap reverse are ∙ reverse-reverse (places_from (are_partners w keys l) 0 rs) in
    let rows : map (paired l) (at_places rs (reverse found)) ≡ f l = ap (map (paired l)) (ap (at_places rs) places ∙ at_places-is (are_partners w keys l) rs) in
    let many : length (take i ls) ≡ i = length-take-le i ls (omega (arith, high)) in
    let more : drop from (take (i + 1) ls) ≡ drop from (take i ls) ++ l ∷ [] = ap (drop from) (one-more ls i l here) ∙ drop-last from (take i ls) l (omega (arith, low, many)) in
    let grown : flat_map f (drop from (take (i + 1) ls)) ≡ flat_map f (drop from (take i ls)) ++ f l =
    ap (λ (ts : List Tuple). flat_map f ts) more ∙ flat_map-append f (drop from (take i ls)) (l ∷ []) ∙ ap (λ (ts : List Tuple). flat_map f (drop from (take i ls)) ++ ts) (append-nil (f l))
    in
    rw (added, rows, h, grown) (append_assoc first (flat_map f (drop from (take i ls))) (f l))
