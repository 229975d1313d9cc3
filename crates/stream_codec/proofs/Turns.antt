-- One turn of each loop of the reader.
use Rattle.std.proofs.Common.{◌≡◌, ℕ, suc, ◌+◌, ◌-◌, ◌*◌, ◌^◌, ◌<◌, ◌≤◌, true, false, ℤ, Some, List, [], ◌∷◌, ◌++◌, length, get_or, drop, refl, sym, ap, ◌∙◌, append_assoc, arith}
use Rattle.std.proofs.lemmas.List.{drop-drop, drop_more, get_or-drop}
use Rattle.std.proofs.lemmas.Int.{of_z-to_z}
use Rattle.std.specs.Int.{w64, cast_signed, cast_unsigned}
use Rattle.byteorder.specs.Endian.{big_number}
use Rattle.byteorder.specs.Numbers.{big_from-lt}
use Rattle.stream_codec.specs.Kinds.{width, holds}
use Rattle.stream_codec.specs.Frames.{widths, bad_place, numbers_at, values_at}
use Rattle.stream_codec.specs.declared.kinds.Field.{Field}
use Rattle.stream_codec.specs.declared.kinds.Field.TheVariants.{Number, Time, Clock, Actor, Client, Buckets}

-- one value more
pub values-step : (c i : ℕ) (bs : List ℕ) → i < c
    → values_at (c - i) (drop (8 * i) bs) ≡ cast_signed w64 (big_number 8 (drop (8 * i) bs)) ∷ values_at (c - (i + 1)) (drop (8 * (i + 1)) bs)
values-step c i bs h =
    let e : c - i ≡ suc (c - (i + 1)) = omega arith in
    let f : 8 * i + 8 ≡ 8 * (i + 1) = omega arith in
    rw (e, drop-drop 8 (8 * i) bs, f) refl

-- a value that was read is handed on as it is
pub value-read : (bs read : List ℕ) (i : ℕ) (r : ℤ) → ((k : ℕ) → get_or bs k 0 < 256) → read ≡ drop i bs
    → r ≡ cast_signed w64 (big_number 8 read) → cast_signed w64 (cast_unsigned w64 r) ≡ cast_signed w64 (big_number 8 (drop i bs))
value-read bs read i r small e f =
    let within : big_number 8 (drop i bs) < 256 ^ 8 = big_from-lt 0 8 (drop i bs) (λ k. rw (get_or-drop i bs k 0) (small (i + k))) in
    let at : r ≡ cast_signed w64 (big_number 8 (drop i bs)) = f ∙ ap (λ (xs : List ℕ). cast_signed w64 (big_number 8 xs)) e in
    ap (λ (z : ℤ). cast_signed w64 (cast_unsigned w64 z)) at ∙ ap (cast_signed w64) (of_z-to_z w64 (big_number 8 (drop i bs)) within)

-- the next element moves from what is left to what was taken
pub pushed : {A : Type 0} (taken later left rest all : List A) (x : A)
    → later ≡ taken ++ x ∷ [] → left ≡ x ∷ rest → taken ++ left ≡ all → later ++ rest ≡ all
pushed taken later left rest all x a b c =
    ap (λ xs. xs ++ rest) a ∙ append_assoc taken (x ∷ []) rest ∙ ap (λ xs. taken ++ xs) (sym b) ∙ c

pub width-le : (f : Field) → width f ≤ 8
width-le Number = omega arith
width-le Time = omega arith
width-le Clock = omega arith
width-le Actor = omega arith
width-le Client = omega arith
width-le Buckets = omega arith

-- one field more
pub widths-step : (fs : List Field) (i : ℕ) (d : Field) → i < length fs
    → widths (drop i fs) ≡ width (get_or fs i d) + widths (drop (i + 1) fs)
widths-step fs i d h = ap widths (drop_more fs i d h)

pub numbers-step : (fs : List Field) (i at w : ℕ) (d : Field) (bs : List ℕ) → i < length fs → w ≡ width (get_or fs i d)
    → numbers_at (drop i fs) (drop at bs)
    ≡ big_number (width (get_or fs i d)) (drop at bs) ∷ numbers_at (drop (i + 1) fs) (drop (at + w) bs)
numbers-step fs i at w d bs h e =
    ap (λ (xs : List Field). numbers_at xs (drop at bs)) (drop_more fs i d h)
    ∙ ap (λ (xs : List ℕ). big_number (width (get_or fs i d)) (drop at bs) ∷ numbers_at (drop (i + 1) fs) xs)
    (drop-drop (width (get_or fs i d)) at bs ∙ ap (λ (x : ℕ). drop (at + x) bs) (sym e))

pub bad_place-step : (fs : List Field) (i at w : ℕ) (d : Field) (bs : List ℕ) → i < length fs → w ≡ width (get_or fs i d)
    → holds (get_or fs i d) (big_number (width (get_or fs i d)) (drop at bs)) ≡ true
    → bad_place (5 + at) (drop i fs) (drop at bs) ≡ bad_place (5 + (at + w)) (drop (i + 1) fs) (drop (at + w) bs)
bad_place-step fs i at w d bs h e good =
    let on : 5 + at + w ≡ 5 + (at + w) = omega arith in
    ap (λ (xs : List Field). bad_place (5 + at) xs (drop at bs)) (drop_more fs i d h)
    ∙ (rw (good, drop-drop (width (get_or fs i d)) at bs, ← e, on) refl)

pub bad_place-here : (fs : List Field) (i at : ℕ) (d : Field) (bs : List ℕ) → i < length fs
    → holds (get_or fs i d) (big_number (width (get_or fs i d)) (drop at bs)) ≡ false
    → bad_place (5 + at) (drop i fs) (drop at bs) ≡ Some (5 + at)
bad_place-here fs i at d bs h bad =
    ap (λ (xs : List Field). bad_place (5 + at) xs (drop at bs)) (drop_more fs i d h) ∙ (rw bad refl)
