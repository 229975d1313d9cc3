-- The bytes of numbers and of a frame's parts.
use Rattle.std.proofs.Common.{◌≡◌, min, nat_le, leb-true, leb-false, ℕ, zero, suc, ◌+◌, ◌-◌, ◌*◌, ◌≤◌, Bool, true, false, ℤ, if◌then◌else◌, List, [], ◌∷◌, ◌++◌, length, take, drop, refl, sym, ap, subst, ◌∙◌, append_assoc, length-append, arith, rules}
use Rattle.std.proofs.lemmas.List.{take_all, drop_all}
use Rattle.byteorder.specs.Endian.{big_bytes}
use Rattle.byteorder.specs.Numbers.{length-bytes_high_first}
use Rattle.std.specs.Int.{w64, cast_unsigned}
use Rattle.stream_codec.specs.Kinds.{width, byte_of, fields, has_columns}
use Rattle.stream_codec.specs.Frames.{widths, fixed_length, number_bytes, value_bytes, column_bytes, body_of, bytes_of_parts}
use Rattle.stream_codec.specs.declared.kinds.Kind.{Kind}
use Rattle.stream_codec.specs.declared.kinds.Field.{Field}

-- the lowest bytes of a number stand last
drop-big_bytes : (k w n : ℕ) → drop k (big_bytes (k + w) n) ≡ big_bytes w n
drop-big_bytes zero w n = let e : 0 + w ≡ w = omega arith in rw e refl
drop-big_bytes (suc k) w n =
    let e : suc k + w ≡ suc (k + w) = omega arith in
    rw e (drop-big_bytes k w n)

-- the last bytes of eight
pub lowest : (w n : ℕ) → w ≤ 8 → take (8 - (8 - w)) (drop (8 - w) (big_bytes 8 n)) ≡ big_bytes w n
lowest w n h =
    let whole : 8 - w + w ≡ 8 = omega arith in
    let same : 8 - (8 - w) ≡ w = omega arith in
    let last : drop (8 - w) (big_bytes 8 n) ≡ big_bytes w n = subst (λ (m : ℕ). drop (8 - w) (big_bytes m n) ≡ big_bytes w n) whole (drop-big_bytes (8 - w) w n) in
    let size = length-bytes_high_first w n in
    ap (λ (bs : List ℕ). take (8 - (8 - w)) bs) last ∙ take_all (8 - (8 - w)) (big_bytes w n) (omega arith)

number_bytes-none : (fs : List Field) → number_bytes fs [] ≡ []
number_bytes-none [] = refl
number_bytes-none (f ∷ fs) = refl

-- past the last field or number there are no bytes
number_bytes-fields_end : (fs : List Field) (ns : List ℕ) (i : ℕ) → length fs ≤ i → number_bytes (drop i fs) (drop i ns) ≡ []
number_bytes-fields_end fs ns i h = rw (drop_all i fs h) refl

number_bytes-numbers_end : (fs : List Field) (ns : List ℕ) (i : ℕ) → length ns ≤ i → number_bytes (drop i fs) (drop i ns) ≡ []
number_bytes-numbers_end fs ns i h = rw (drop_all i ns h) (number_bytes-none (drop i fs))

pub number_bytes-end : (fs : List Field) (ns : List ℕ) (i : ℕ) → min (length fs) (length ns) ≤ i → number_bytes (drop i fs) (drop i ns) ≡ []
number_bytes-end fs ns i h =
    (elim (nat_le (length fs) i) as (λ (b : Bool). nat_le (length fs) i ≡ b → number_bytes (drop i fs) (drop i ns) ≡ []) [
      | true ↦ λ e. number_bytes-fields_end fs ns i (leb-true _ _ e)
      | false ↦ λ e. let above = leb-false _ _ e in number_bytes-numbers_end fs ns i (omega arith)
    ]) refl

pub length-number_bytes : (fs : List Field) (ns : List ℕ) → length ns ≡ length fs → length (number_bytes fs ns) ≡ widths fs
length-number_bytes [] ns h = refl
length-number_bytes (f ∷ fs) [] h = absurd (omega arith)
length-number_bytes (f ∷ fs) (n ∷ ns) h =
    let rest = length-number_bytes fs ns (omega arith) in
    let here = length-bytes_high_first (width f) n in
    length-append (big_bytes (width f) n) (number_bytes fs ns) ∙ (omega arith)

pub length-value_bytes : (vs : List ℤ) → length (value_bytes vs) ≡ 8 * length vs
length-value_bytes [] = refl
length-value_bytes (v ∷ vs) =
    let rest = length-value_bytes vs in
    length-append (big_bytes 8 (cast_unsigned w64 v)) (value_bytes vs) ∙ (omega arith)

-- how many bytes follow the length
pub length-body : (k : Kind) (ns : List ℕ) (vs : List ℤ) → length ns ≡ length (fields k)
    → length (body_of k ns vs) ≡ fixed_length k + (if has_columns k then 8 * length vs else 0)
length-body k ns vs h =
    let front = length-number_bytes (fields k) ns h in
    let values = length-value_bytes vs in
    length-append (number_bytes (fields k) ns) (column_bytes k vs)
    ∙ (elim (has_columns k) as (λ (b : Bool). length (number_bytes (fields k) ns) + length (if b then big_bytes 1 (length vs) ++ value_bytes vs else [])
    ≡ widths (fields k) + (if b then 1 else 0) + (if b then 8 * length vs else 0)) [
      | true ↦ omega arith
      | false ↦ omega arith
    ])

-- what the writer leaves of a frame, step by step
pub parts : (k : Kind) (ns : List ℕ) (vs : List ℤ) (old at_kind at_length at_fields done : List ℕ) (n : ℕ)
    → length ns ≡ length (fields k)
    → at_kind ≡ old ++ byte_of k ∷ []
    → n ≡ fixed_length k + (if has_columns k then 8 * length vs else 0)
    → at_length ≡ at_kind ++ big_bytes 4 n
    → at_fields ≡ at_length ++ number_bytes (fields k) ns
    → has_columns k ≡ true
    → done ≡ at_fields ++ big_bytes 1 (length vs) ++ value_bytes vs
    → done ≡ old ++ bytes_of_parts k ns vs
parts k ns vs old at_kind at_length at_fields done n few a b c d columns e =
    let size : n ≡ length (body_of k ns vs) = b ∙ sym (length-body k ns vs few) in
    let body : number_bytes (fields k) ns ++ (big_bytes 1 (length vs) ++ value_bytes vs) ≡ body_of k ns vs = rw columns refl in
    let tail : big_bytes 4 n ++ (number_bytes (fields k) ns ++ (big_bytes 1 (length vs) ++ value_bytes vs)) ≡ big_bytes 4 (length (body_of k ns vs)) ++ body_of k ns vs
    = ap (λ (bs : List ℕ). big_bytes 4 n ++ bs) body ∙ ap (λ (m : ℕ). big_bytes 4 m ++ body_of k ns vs) size in
    let joined : done ≡ (old ++ byte_of k ∷ []) ++ (big_bytes 4 n ++ (number_bytes (fields k) ns ++ (big_bytes 1 (length vs) ++ value_bytes vs)))
    = search (rules, append_assoc, a, c, d, e) in
    joined ∙ append_assoc old (byte_of k ∷ []) _ ∙ ap (λ (bs : List ℕ). old ++ byte_of k ∷ bs) tail
