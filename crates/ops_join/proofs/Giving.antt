-- Steps of the loops that give rows.
use Rattle.std.proofs.Common.{◌≡◌, ℕ, zero, suc, ◌+◌, ◌<◌, ◌≤◌, List, [], ◌∷◌, ◌++◌, map, length, drop, reverse, get_or, append_assoc, Some, refl, sym, ◌∙◌, ap, arith}
use Rattle.std.proofs.lemmas.List.{reverse-reverse, append-nil}
use Rattle.std.proofs.Math.Seq.{drop-append_seam}
use Rattle.std.specs.List.{flat_map, slice_get}
use Rattle.dpc_model.specs.Operators.{are_partners, paired, pairs_with}
use Rattle.dpc_model.specs.declared.tuples.Tuple.{Tuple}
use Rattle.dpc_model.specs.Fragments.{at_port}
use Rattle.dpc_model.specs.declared.tuples.Tagged.{Tagged}
use Rattle.dpc_model.proofs.Buckets.{at_port-append}
use Rattle.ops_join.specs.declared.ends.End.TheVariants.{Left, Right}
use Rattle.ops_join.specs.Groups.{group_rows}
use Rattle.ops_join.specs.Sides.{places_from, at_places, row_at, SidesState, new_sides, taken, bucket_rows}
use Rattle.ops_join.proofs.Places.{at_places-is, row-one}
use Rattle.ops_join.proofs.Steps.{drop-at}

-- the row of the next place
pub partners-pop : {X Y : Type 0} (f : X → Y) (xs : List X) (ps qs : List ℕ) (p : ℕ) (x : X) (y : Y) → ps ≡ p ∷ qs → slice_get xs p ≡ Some x → y ≡ f x →
    map f (at_places xs ps) ≡ (y ∷ []) ++ map f (at_places xs qs)
partners-pop f xs ps qs p x y are here is = let first : at_places xs ps ≡ x ∷ at_places xs qs = rw (are, here) refl in rw (first, is) refl

pub drop-next : {X : Type 0} (xs : List X) (i : ℕ) (d : X) → i < length xs → drop i xs ≡ get_or xs i d ∷ drop (i + 1) xs
drop-next [] i d h = absurd (omega (arith, h))
drop-next (x ∷ xs) zero d h = refl
drop-next (x ∷ xs) (suc i) d h = let e : suc i + 1 ≡ suc (i + 1) = omega arith in rw e (drop-next xs i d (omega (arith, h)))

-- the row of the next pair
pub pairs-next : (ls rs : List Tuple) (pairs : List (ℕ × ℕ)) (i : ℕ) (l r row : Tuple) → i < length pairs → slice_get ls (get_or pairs i (0, 0)).0 ≡ Some l → slice_get rs (get_or pairs i (0, 0)).1 ≡ Some r → row ≡ paired l r →
    flat_map (row_at ls rs) (drop i pairs) ≡ (row ∷ []) ++ flat_map (row_at ls rs) (drop (i + 1) pairs)
pairs-next ls rs pairs i l r row low at_left at_right is =
    let pair = get_or pairs i (0, 0) in
    ap (λ (ps : List (ℕ × ℕ)). flat_map (row_at ls rs) ps) (drop-next pairs i (0, 0) low)
    ∙ ap (λ (ts : List Tuple). ts ++ flat_map (row_at ls rs) (drop (i + 1) pairs)) (row-one ls rs pair l r at_left at_right ∙ ap (λ (t : Tuple). t ∷ []) (sym is))

-- the rows of the next left tuple
pub left-next : (w : ℕ) (keys : List (ℕ × ℕ)) (ls rs : List Tuple) (i : ℕ) (l : Tuple) (found : List ℕ) → slice_get ls i ≡ Some l → found ≡ reverse (places_from (are_partners w keys l) 0 rs) →
    flat_map (pairs_with w keys rs) (drop i ls) ≡ map (paired l) (at_places rs (reverse found)) ++ flat_map (pairs_with w keys rs) (drop (i + 1) ls)
left-next w keys ls rs i l found here are =
    let places : reverse found ≡ places_from (are_partners w keys l) 0 rs = ap reverse are ∙ reverse-reverse (places_from (are_partners w keys l) 0 rs) in
    let rows : map (paired l) (at_places rs (reverse found)) ≡ pairs_with w keys rs l = ap (map (paired l)) (ap (at_places rs) places ∙ at_places-is (are_partners w keys l) rs) in
    ap (λ (ts : List Tuple). flat_map (pairs_with w keys rs) ts) (drop-at ls i l here) ∙ ap (λ (ts : List Tuple). ts ++ flat_map (pairs_with w keys rs) (drop (i + 1) ls)) (sym rows)

pub drop-all : {X : Type 0} (i : ℕ) (xs : List X) → length xs ≤ i → drop i xs ≡ []
drop-all zero [] h = refl
drop-all (suc i) [] h = refl
drop-all zero (x ∷ xs) h = absurd (omega (arith, h))
drop-all (suc i) (x ∷ xs) h = drop-all i xs (omega (arith, h))

-- ---- the sides

-- with the right ones of some inputs alone
pub fresh-rows : (w : ℕ) (s : SidesState) (keys : List (ℕ × ℕ)) (ts us ls more : List Tuple) → s ≡ taken Right ts (new_sides keys) → us ≡ ts → more ≡ ls →
    flat_map (pairs_with w s.keys s.right) (drop 0 more) ≡ flat_map (pairs_with w keys us) ls
fresh-rows w s keys ts us ls more is same left = rw (is, same, left) refl

pub late-rows-are : (w n : ℕ) (old s : SidesState) (ts : List Tuple) → s ≡ taken Right ts old → n ≡ length old.right →
    flat_map (pairs_with w s.keys (drop n s.right)) s.left ≡ flat_map (pairs_with w old.keys ts) old.left
late-rows-are w n old s ts is known = rw (is, known, drop-append_seam old.right ts) refl

pub new-rows-are : (w n : ℕ) (old s t : SidesState) (ts us left : List Tuple) → s ≡ taken Right ts old → t ≡ taken Left us s → n ≡ length s.left → left ≡ t.left →
    flat_map (pairs_with w t.keys t.right) (drop n left) ≡ flat_map (pairs_with w old.keys (old.right ++ ts)) us
new-rows-are w n old s t ts us left is more known here = rw (here, known, more, is, drop-append_seam old.left us) refl

pub taken-none : (s : SidesState) → s ≡ taken Left [] (taken Right [] s)
taken-none s = rw (append-nil s.left, append-nil s.right) refl

pub taken-more : (old s t : SidesState) (xs ys zs : List Tagged) → s ≡ taken Left (at_port 0 xs) (taken Right (at_port 1 xs) old) → t ≡ taken Left (at_port 0 ys) (taken Right (at_port 1 ys) s) → zs ≡ xs ++ ys →
    t ≡ taken Left (at_port 0 zs) (taken Right (at_port 1 zs) old)
taken-more old s t xs ys zs first then all =
    rw (then, first, all, at_port-append 0 xs ys, at_port-append 1 xs ys, append_assoc old.left (at_port 0 xs) (at_port 0 ys), append_assoc old.right (at_port 1 xs) (at_port 1 ys)) refl

pub group-of : (w : ℕ) (old s : SidesState) (xs ys zs : List Tagged) → s ≡ taken Left (at_port 0 xs) (taken Right (at_port 1 xs) old) → zs ≡ ys →
    group_rows w s.keys s.left s.right (at_port 0 zs) (at_port 1 zs)
    ≡ group_rows w old.keys (old.left ++ at_port 0 xs) (old.right ++ at_port 1 xs) (at_port 0 ys) (at_port 1 ys)
group-of w old s xs ys zs is same = rw (is, same) refl

none-left : (w : ℕ) (keys : List (ℕ × ℕ)) (ls : List Tuple) → flat_map (pairs_with w keys []) ls ≡ []
none-left w keys [] = refl
none-left w keys (l ∷ ls) = none-left w keys ls

pub rows-none : (w : ℕ) (keys : List (ℕ × ℕ)) (ls rs : List Tuple) → bucket_rows w keys ls rs [] [] ≡ []
rows-none w keys ls rs = rw (none-left w keys ls) refl
