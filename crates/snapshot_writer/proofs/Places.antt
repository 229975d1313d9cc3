-- What stands at a place of the pieces, and how many there are.
use Rattle.std.proofs.Common.{◌≡◌, ◌<◌, ◌≤◌, min, nat_le, leb-true, leb-false, Bool, true, false, ℕ, zero, suc, ◌+◌, ◌*◌, ◌^◌, List, [], ◌∷◌, ◌++◌, length, take, drop, map, get_or, Some, slice_get, refl, sym, ap, ◌∙◌, length-append, arith}
use Rattle.std.proofs.lemmas.List.{take_all, length-map, get_or-map, get_or_append_left, get_or-append-add, length-drop, drop-drop}
use Rattle.byteorder.specs.Endian.{big_bytes}
use Rattle.dpc_model.specs.declared.tuples.Tuple.{Tuple}
use Rattle.node_model.specs.Stands.{SnapValue}
use Rattle.fragment_mill.specs.Mills.{MillState}
use Rattle.fragment_mill.specs.States.{parts_of}
use Rattle.fragment_mill.specs.declared.states.OperatorParts.{OperatorParts}
use Rattle.fragment_mill.specs.declared.states.OperatorParts.TheVariants.{Plain, Join, Aggregate}
use Rattle.snapshot_form.specs.Bytes.{tuples_bytes, list_bytes, part_bytes, parts_bytes, head_bytes, snapshot_bytes}
use Rattle.snapshot_form.specs.Pieces.{split_in, piece_size, parts_before_last, kept_parts, pieces_of}

length-split : {T : Type 0} (k n : ℕ) (xs : List T) → length (split_in k n xs) ≡ n + 1
length-split k zero xs = refl
length-split k (suc n) xs = let rest = length-split k n (drop k xs) in omega (arith, rest)

-- the part at a place, up to the last one
part-at : {T : Type 0} (k n i : ℕ) (xs : List T) (other : List T) → i ≤ n → length xs ≤ k * n + k → get_or (split_in k n xs) i other ≡ take k (drop (k * i) xs)
part-at k zero zero xs other within few =
    let none : k * 0 ≡ 0 = omega arith in
    rw none (sym (take_all k xs (omega arith)))
part-at k zero (suc i) xs other within few = absurd (omega arith)
part-at k (suc n) zero xs other within few = let none : k * 0 ≡ 0 = omega arith in rw none refl
part-at {T} k (suc n) (suc i) xs other within few =
    let left = length-drop k xs in
    let further : k + k * i ≡ k * suc i = omega arith in
    part-at k n i (drop k xs) other (omega arith) (omega (arith, left))
    ∙ ap (λ (ys : List T). take k ys) (drop-drop (k * i) k xs ∙ ap (λ (m : ℕ). drop m xs) further)

-- the first k of a list, however short it is
pub first-of : {T : Type 0} (k : ℕ) (xs : List T) → take (min (length xs) k) xs ≡ take k xs
first-of k xs =
    (elim (nat_le (length xs) k) as (λ (b : Bool). nat_le (length xs) k ≡ b → take (min (length xs) k) xs ≡ take k xs) [
      | true ↦ λ e.
          let few = leb-true _ _ e in
          let all : min (length xs) k ≡ length xs = omega arith in
          rw all (take_all (length xs) xs (omega arith) ∙ sym (take_all k xs few))
      | false ↦ λ e.
          let many = leb-false _ _ e in
          let same : min (length xs) k ≡ k = omega arith in
          rw same refl
    ]) refl

mapped-at : {T : Type 0} (f : T → List ℕ) (xs : List T) (i : ℕ) (x : T) (other : List ℕ) → slice_get xs i ≡ Some x → get_or (map f xs) i other ≡ f x
mapped-at f [] i x other e = absurd (cc)
mapped-at f (y ∷ xs) zero x other e = let same : y ≡ x = cc in ap f same
mapped-at f (y ∷ xs) (suc i) x other e = mapped-at f xs i x other e

pub length-pieces : (s : SnapValue MillState) → length (pieces_of s) ≡ 1 + (parts_before_last (length s.kept) + 1) + length (parts_of s.mill).operators
unfolding pieces_of
length-pieces s =
    let ops = (parts_of s.mill).operators in
    let kept = length-map (kept_parts s.kept) tuples_bytes in
    let split = length-split piece_size (parts_before_last (length s.kept)) s.kept in
    let rest = length-map ops part_bytes in
    let all = length-append (map tuples_bytes (kept_parts s.kept)) (map part_bytes ops) in
    omega (arith, kept, split, rest, all)

pub piece-head : (s : SnapValue MillState) (other : List ℕ) → get_or (pieces_of s) 0 other ≡ head_bytes s ++ big_bytes 4 (length s.kept)
unfolding pieces_of
piece-head s other = refl

pub piece-kept : (s : SnapValue MillState) (number i : ℕ) (other : List ℕ) → number ≡ i + 1 → i < parts_before_last (length s.kept) + 1
    → get_or (pieces_of s) number other ≡ tuples_bytes (take piece_size (drop (piece_size * i) s.kept))
unfolding pieces_of
piece-kept s number i other e within =
    let ops = (parts_of s.mill).operators in
    let n = parts_before_last (length s.kept) in
    let split = length-split piece_size n s.kept in
    let kept = length-map (kept_parts s.kept) tuples_bytes in
    let next : number ≡ suc i = omega arith in
    ap (λ (m : ℕ). get_or (pieces_of s) m other) next
    ∙ get_or_append_left (map tuples_bytes (kept_parts s.kept)) (map part_bytes ops) other i (omega (arith, kept, split))
    ∙ get_or-map tuples_bytes (kept_parts s.kept) i [] other (omega (arith, split))
    ∙ ap (λ (ts : List Tuple). tuples_bytes ts) (part-at piece_size n i s.kept [] (omega arith) (omega arith))

pub piece-part : (s : SnapValue MillState) (number i : ℕ) (p : OperatorParts) (other : List ℕ) → number ≡ 1 + (parts_before_last (length s.kept) + 1) + i
    → slice_get (parts_of s.mill).operators i ≡ Some p → get_or (pieces_of s) number other ≡ part_bytes p
unfolding pieces_of
piece-part s number i p other e at =
    let ops = (parts_of s.mill).operators in
    let split = length-split piece_size (parts_before_last (length s.kept)) s.kept in
    let kept = length-map (kept_parts s.kept) tuples_bytes in
    let next : number ≡ suc (length (map tuples_bytes (kept_parts s.kept)) + i) = omega (arith, kept, split) in
    ap (λ (m : ℕ). get_or (pieces_of s) m other) next
    ∙ get_or-append-add (map tuples_bytes (kept_parts s.kept)) (map part_bytes ops) i other
    ∙ mapped-at part_bytes ops i p other at

-- ---- lengths within the whole

part-within : (ps : List OperatorParts) (i : ℕ) (p : OperatorParts) → slice_get ps i ≡ Some p → length (part_bytes p) ≤ length (parts_bytes ps)
part-within [] i p e = absurd (cc)
part-within (q ∷ ps) zero p e =
    let same : q ≡ p = cc in
    let size = ap (λ (r : OperatorParts). length (part_bytes r)) same in
    let all = length-append (part_bytes q) (parts_bytes ps) in
    omega (arith, size, all)
part-within (q ∷ ps) (suc i) p e =
    let rest = part-within ps i p e in
    let all = length-append (part_bytes q) (parts_bytes ps) in
    omega (arith, rest, all)

some-byte : (p : OperatorParts) → 1 ≤ length (part_bytes p)
some-byte Plain = omega arith
some-byte (Join left right) = omega arith
some-byte (Aggregate cells) = omega arith

count-within : (ps : List OperatorParts) → length ps ≤ length (parts_bytes ps)
count-within [] = omega arith
count-within (p ∷ ps) =
    let here = some-byte p in
    let rest = count-within ps in
    let all = length-append (part_bytes p) (parts_bytes ps) in
    omega (arith, here, rest, all)

parts-within : (s : SnapValue MillState) → length (parts_bytes (parts_of s.mill).operators) ≤ length (snapshot_bytes s)
unfolding snapshot_bytes
parts-within s =
    let all = length-append (head_bytes s ++ list_bytes s.kept) (parts_bytes (parts_of s.mill).operators) in
    omega (arith, all)

-- one operator's bytes, and the count of operators, where the bytes of the whole are few
pub part-short : (s : SnapValue MillState) (i : ℕ) (p : OperatorParts) → slice_get (parts_of s.mill).operators i ≡ Some p → length (snapshot_bytes s) < 2 ^ 63 → length (part_bytes p) < 2 ^ 63
part-short s i p at short =
    let part = part-within (parts_of s.mill).operators i p at in
    let whole = parts-within s in
    omega (arith, part, whole)

pub count-short : (s : SnapValue MillState) → length (snapshot_bytes s) < 2 ^ 63 → length (parts_of s.mill).operators < 2 ^ 63
count-short s short =
    let part = count-within (parts_of s.mill).operators in
    let whole = parts-within s in
    omega (arith, part, whole)
