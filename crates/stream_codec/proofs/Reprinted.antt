-- Bytes that are read are what is written of the frame.
use Rattle.std.proofs.Common.{◌≡◌, ℕ, zero, suc, ◌+◌, ◌-◌, ◌*◌, ◌/◌, ◌%◌, ◌^◌, ◌<◌, ◌≤◌, ◌==◌, nat_le, ◌&&◌, not, Bool, true, false, if◌then◌else◌, ℤ, pos, negsuc, int_le, Ok, List, [], ◌∷◌, ◌++◌, All, length, slice_index, take, drop, refl, sym, ap, subst, ◌∙◌, append-nil, append_assoc, length-drop, le-leb, leb-true, ltb, ltb-true, ltb-false, eqb-true, pow-suc, arith}
use Rattle.std.proofs.lemmas.Bool.{and_parts, and_from, not-false}
use Rattle.std.proofs.lemmas.Int.{of_z-to_z}
use Rattle.std.proofs.lemmas.List.{drop_more, length-take-le}
use Rattle.std.proofs.lemmas.List.Elements.{All-head, All-tail, All-drop}
use Rattle.std.proofs.lemmas.Nat.{div-mul-add, mod-mul-add}
use Rattle.std.proofs.Math.Nat.{div-one}
use Rattle.std.proofs.Math.Seq.{take-add}
use Rattle.std.specs.Int.{w64, byte_at, cast_signed, cast_unsigned}
use Rattle.dpc_lists.specs.Lists.{list_all}
use Rattle.byteorder.specs.Endian.{big_bytes, big_number}
use Rattle.byteorder.specs.Numbers.{big_from-cons, big_from-lt}
use mir.Val.{sel}
use Rattle.stream_codec.specs.Kinds.{width, byte_of, fields, has_columns}
use Rattle.stream_codec.specs.Frames.{numbers_in, values_in, widths, fixed_length, may_have_length, number_bytes, value_bytes, body_of, bytes_of_parts, frame_bytes, is_i64, all_hold, has_some_columns, is_in_range, frame_of, numbers_at, values_at, columns_at, has_wrong_count, decoded}
use Rattle.stream_codec.specs.declared.faults.DecodeFault.TheVariants.{Short}
use Rattle.stream_codec.specs.declared.frames.Frame.{Frame}
use Rattle.stream_codec.specs.declared.kinds.Field.{Field}
use Rattle.stream_codec.specs.declared.kinds.Kind.{Kind}
use Rattle.stream_codec.proofs.Named.{named-byte, kind-kept, numbers-kept, values-kept, bytes-kept}
use Rattle.stream_codec.proofs.Parts.{numbers-hold}
use Rattle.stream_codec.proofs.Steps.{not-ok, IsWhole, IsFrame, kind-told, length-told, rest-told, body-told}

-- ---- numbers

small : (bs : List ℕ) → All (λ b. b < 256) bs → (k : ℕ) → slice_index bs k < 256
small [] h k = omega arith
small (b ∷ bs) h zero = All-head (λ (x : ℕ). x < 256) b bs h
small (b ∷ bs) h (suc k) = small bs (All-tail (λ (x : ℕ). x < 256) b bs h) k

byte-is : (k n : ℕ) → byte_at k n ≡ n / 256 ^ k % 256
byte-is zero n = ap (λ (m : ℕ). m % 256) (sym (div-one n))
byte-is (suc k) n = refl

regroup : (high p b r : ℕ) → high * (p * 256) + (b * p + r) ≡ (high * 256 + b) * p + r
regroup high p b r = grind arith

-- the bytes of a number that was read
bytes-again : (w high : ℕ) (bs : List ℕ) → w ≤ length bs → All (λ b. b < 256) bs → big_bytes w (high * 256 ^ w + big_number w bs) ≡ take w bs
bytes-again zero high bs h all = refl
bytes-again (suc w) high [] h all = absurd (omega arith)
bytes-again (suc w) high (b ∷ bs) h all =
    let rest = All-tail (λ (x : ℕ). x < 256) b bs all in
    let r = big_number w bs in
    let n = high * 256 ^ suc w + big_number (suc w) (b ∷ bs) in
    let low : r < 256 ^ w = big_from-lt 0 w bs (small bs rest) in
    let moved : big_number (suc w) (b ∷ bs) ≡ b * 256 ^ w + r = ap (λ (x : ℕ). b * 256 ^ w + x) (big_from-cons 0 w b bs) in
    let split : n ≡ (high * 256 + b) * 256 ^ w + r =
    ap (λ (x : ℕ). high * x + big_number (suc w) (b ∷ bs)) (pow-suc 256 w) ∙ ap (λ (x : ℕ). high * (256 ^ w * 256) + x) moved ∙ regroup high (256 ^ w) b r in
    let here : byte_at w n ≡ b = byte-is w n ∙ ap (λ (x : ℕ). x / 256 ^ w % 256) split
    ∙ ap (λ (x : ℕ). x % 256) (div-mul-add (high * 256 + b) (256 ^ w) r low) ∙ mod-mul-add high 256 b (All-head (λ (x : ℕ). x < 256) b bs all) in
    let tail : big_bytes w n ≡ take w bs = ap (big_bytes w) split ∙ bytes-again w (high * 256 + b) bs (omega arith) rest in
    ap (λ (x : ℕ). x ∷ big_bytes w n) here ∙ ap (λ (xs : List ℕ). b ∷ xs) tail

number-again : (w : ℕ) (bs : List ℕ) → w ≤ length bs → All (λ b. b < 256) bs → big_bytes w (big_number w bs) ≡ take w bs
number-again w bs h all =
    let same : big_number w bs ≡ 0 * 256 ^ w + big_number w bs = omega arith in
    ap (big_bytes w) same ∙ bytes-again w 0 bs h all

numbers-again : (fs : List Field) (bs : List ℕ) → widths fs ≤ length bs → All (λ b. b < 256) bs → number_bytes fs (numbers_at fs bs) ≡ take (widths fs) bs
numbers-again [] bs h all = refl
numbers-again (f ∷ fs) bs h all =
    let rest = drop (width f) bs in
    let first = number-again (width f) bs (omega arith) all in
    let later = numbers-again fs rest (omega (arith, length-drop (width f) bs)) (All-drop (λ (b : ℕ). b < 256) (width f) bs all) in
    ap (λ (xs : List ℕ). xs ++ number_bytes fs (numbers_at fs rest)) first
    ∙ ap (λ (xs : List ℕ). take (width f) bs ++ xs) later ∙ sym (take-add (width f) (widths fs) bs)

numbers-many : (fs : List Field) (bs : List ℕ) → length (numbers_at fs bs) ≡ length fs
numbers-many [] bs = refl
numbers-many (f ∷ fs) bs = ap suc (numbers-many fs (drop (width f) bs))

-- ---- values

values-again : (c : ℕ) (bs : List ℕ) → 8 * c ≤ length bs → All (λ b. b < 256) bs → value_bytes (values_at c bs) ≡ take (8 * c) bs
values-again zero bs h all = refl
values-again (suc c) bs h all =
    let rest = drop 8 bs in
    let fits : big_number 8 bs < 256 ^ 8 = big_from-lt 0 8 bs (small bs all) in
    let first : big_bytes 8 (cast_unsigned w64 (cast_signed w64 (big_number 8 bs))) ≡ take 8 bs =
    ap (big_bytes 8) (of_z-to_z w64 (big_number 8 bs) fits) ∙ number-again 8 bs (omega arith) all in
    let later = values-again c rest (omega (arith, length-drop 8 bs)) (All-drop (λ (b : ℕ). b < 256) 8 bs all) in
    let more : 8 + 8 * c ≡ 8 * suc c = omega arith in
    ap (λ (xs : List ℕ). xs ++ value_bytes (values_at c rest)) first
    ∙ ap (λ (xs : List ℕ). take 8 bs ++ xs) later ∙ sym (take-add 8 (8 * c) bs) ∙ ap (λ (m : ℕ). take m bs) more

values-many : (c : ℕ) (bs : List ℕ) → length (values_at c bs) ≡ c
values-many zero bs = refl
values-many (suc c) bs = ap suc (values-many c (drop 8 bs))

signed-within : (n : ℕ) → is_i64 (cast_signed w64 n) ≡ true
signed-within n =
    (elim (ltb n (2 ^ 63)) as (λ (b : Bool). ltb n (2 ^ 63) ≡ b → is_i64 (sel b (pos n) (negsuc (2 ^ 64 - suc n))) ≡ true) [
      | true ↦ λ e. let low = ltb-true n (2 ^ 63) e in and_from true (int_le (pos n) (pos (2 ^ 63 - 1))) refl (le-leb n (2 ^ 63 - 1) (omega arith))
      | false ↦ λ e. let high = ltb-false n (2 ^ 63) e in and_from (int_le (negsuc (2 ^ 63 - 1)) (negsuc (2 ^ 64 - suc n))) true (le-leb (2 ^ 64 - suc n) (2 ^ 63 - 1) (omega arith)) refl
    ]) refl

values-within : (c : ℕ) (bs : List ℕ) → list_all is_i64 (values_at c bs) ≡ true
values-within zero bs = refl
values-within (suc c) bs =
    and_from (is_i64 (cast_signed w64 (big_number 8 bs))) (list_all is_i64 (values_at c (drop 8 bs))) (signed-within (big_number 8 bs)) (values-within c (drop 8 bs))

-- ---- lengths

record IsTupleLength (x n : ℕ) : Type 0 where
  whole : n ≡ x + 8 * ((n - x) / 8)
  low : 1 ≤ (n - x) / 8
  high : (n - x) / 8 ≤ 8

tuple-length : (b : Bool) (x n : ℕ) → b ≡ true → (if b then nat_le (x + 8) n && nat_le n (x + 64) && (n - x) % 8 == 0 else n == x) ≡ true → IsTupleLength x n
tuple-length true x n e h =
    let p = and_parts (nat_le (x + 8) n && nat_le n (x + 64)) ((n - x) % 8 == 0) h in
    let q = and_parts (nat_le (x + 8) n) (nat_le n (x + 64)) p.0 in
    let least = leb-true (x + 8) n q.0 in
    let most = leb-true n (x + 64) q.1 in
    let even = eqb-true ((n - x) % 8) 0 p.1 in
    record { whole = omega arith; low = omega arith; high = omega arith }
tuple-length false x n e h = cc

plain-length : (b : Bool) (x n : ℕ) → b ≡ false → (if b then nat_le (x + 8) n && nat_le n (x + 64) && (n - x) % 8 == 0 else n == x) ≡ true → n ≡ x
plain-length true x n e h = cc
plain-length false x n e h = eqb-true n x h

byte-whole : (n : ℕ) → n ≤ 8 → n % 256 ≡ n
byte-whole n h = omega arith

-- ---- a frame's body

tuple-again : (k : Kind) (n : ℕ) (bs : List ℕ) → has_columns k ≡ true → may_have_length k n ≡ true → n ≤ length bs → has_wrong_count k n bs ≡ false
    → All (λ b. b < 256) bs → body_of k (numbers_at (fields k) bs) (columns_at k n bs) ≡ take n bs
tuple-again k n bs columns may long right all =
    let place = widths (fields k) in
    let fixed : fixed_length k ≡ place + 1 = rw columns refl in
    let tells = subst (λ (x : ℕ). IsTupleLength x n) fixed (tuple-length (has_columns k) (fixed_length k) n columns may) in
    let count = (n - (place + 1)) / 8 in
    let whole : n ≡ place + 1 + 8 * count = tells.whole in
    let few : count ≤ 8 = tells.high in
    let rest = drop (place + 1) bs in
    let values : columns_at k n bs ≡ values_at count rest = rw columns refl in
    let body : body_of k (numbers_at (fields k) bs) (columns_at k n bs)
    ≡ number_bytes (fields k) (numbers_at (fields k) bs) ++ (big_bytes 1 (length (values_at count rest)) ++ value_bytes (values_at count rest)) = rw columns refl in
    let wrong : not (slice_index bs place == count) ≡ false = (rw columns refl) ∙ right in
    let told : slice_index bs place ≡ count = eqb-true _ _ (not-false _ wrong) in
    let one : big_bytes 1 (length (values_at count rest)) ≡ take 1 (drop place bs) =
    ap (big_bytes 1) (values-many count rest ∙ sym told)
    ∙ ap (λ (x : ℕ). x ∷ []) (byte-whole (slice_index bs place) (omega arith)) ∙ sym (ap (take 1) (drop_more bs place 0 (omega arith))) in
    let later : value_bytes (values_at count rest) ≡ take (8 * count) rest =
    values-again count rest (omega (arith, length-drop (place + 1) bs)) (All-drop (λ (b : ℕ). b < 256) (place + 1) bs all) in
    let first = numbers-again (fields k) bs (omega arith) all in
    body
    ∙ ap (λ (xs : List ℕ). xs ++ (big_bytes 1 (length (values_at count rest)) ++ value_bytes (values_at count rest))) first
    ∙ ap (λ (xs : List ℕ). take place bs ++ (xs ++ value_bytes (values_at count rest))) one
    ∙ ap (λ (xs : List ℕ). take place bs ++ (take 1 (drop place bs) ++ xs)) later
    ∙ sym (append_assoc (take place bs) (take 1 (drop place bs)) (take (8 * count) rest))
    ∙ ap (λ (xs : List ℕ). xs ++ take (8 * count) rest) (sym (take-add place 1 bs))
    ∙ sym (take-add (place + 1) (8 * count) bs) ∙ ap (λ (m : ℕ). take m bs) (sym whole)

plain-again : (k : Kind) (n : ℕ) (bs : List ℕ) → has_columns k ≡ false → may_have_length k n ≡ true → n ≤ length bs
    → All (λ b. b < 256) bs → body_of k (numbers_at (fields k) bs) (columns_at k n bs) ≡ take n bs
plain-again k n bs none may long all =
    let fixed : fixed_length k ≡ widths (fields k) + 0 = rw none refl in
    let whole = plain-length (has_columns k) (fixed_length k) n none may in
    let same : widths (fields k) ≡ n = omega arith in
    let body : body_of k (numbers_at (fields k) bs) (columns_at k n bs) ≡ number_bytes (fields k) (numbers_at (fields k) bs) ++ [] = rw none refl in
    body ∙ append-nil (number_bytes (fields k) (numbers_at (fields k) bs))
    ∙ numbers-again (fields k) bs (omega arith) all ∙ ap (λ (m : ℕ). take m bs) same

body-again : (k : Kind) (n : ℕ) (bs : List ℕ) → may_have_length k n ≡ true → n ≤ length bs → has_wrong_count k n bs ≡ false
    → All (λ b. b < 256) bs → body_of k (numbers_at (fields k) bs) (columns_at k n bs) ≡ take n bs
body-again k n bs may long right all =
    (elim (has_columns k) as (λ (b : Bool). has_columns k ≡ b → body_of k (numbers_at (fields k) bs) (columns_at k n bs) ≡ take n bs) [
      | true ↦ λ e. tuple-again k n bs e may long right all
      | false ↦ λ e. plain-again k n bs e may long all
    ]) refl

no-columns : (k : Kind) (n : ℕ) (bs : List ℕ) → has_columns k ≡ false → columns_at k n bs ≡ []
no-columns k n bs h = rw h refl

-- ---- what was read

record Reading (b : ℕ) (bs : List ℕ) (f : Frame) (n : ℕ) : Type 0 where
  kind : Kind
  named : byte_of kind ≡ b
  four : 4 ≤ length bs
  whole : IsWhole kind (big_number 4 bs) (drop 4 bs) (f, n)
  told : IsFrame kind (big_number 4 bs) (drop 4 bs) (f, n)

reading : (b : ℕ) (bs : List ℕ) (f : Frame) (n : ℕ) → decoded (b ∷ bs) ≡ Ok (f, n) → Reading b bs f n
reading b bs f n h =
    let k = kind-told b bs (f, n) h in
    let l = length-told k.kind bs (f, n) k.rest in
    let w = rest-told k.kind (big_number 4 bs) (drop 4 bs) (f, n) l.1 in
    record {
      kind = k.kind;
      named = named-byte b k.kind k.named;
      four = l.0;
      whole = w;
      told = body-told k.kind (big_number 4 bs) (drop 4 bs) (f, n) w.rest;
    }

read-length : (b : ℕ) (bs : List ℕ) (f : Frame) (n : ℕ) → Reading b bs f n → 5 + big_number 4 bs ≡ n
read-length b bs f n r = ap (λ (p : Frame × ℕ). p.1) r.told.same

read-frame : (b : ℕ) (bs : List ℕ) (f : Frame) (n : ℕ) (r : Reading b bs f n)
    → frame_of r.kind (numbers_at (fields r.kind) (drop 4 bs)) (columns_at r.kind (big_number 4 bs) (drop 4 bs)) ≡ f
read-frame b bs f n r = ap (λ (p : Frame × ℕ). p.0) r.told.same

pub read-whole : (bs : List ℕ) (f : Frame) (n : ℕ) → decoded bs ≡ Ok (f, n) → n ≤ length bs
unfolding decoded
read-whole [] f n h = not-ok Short (f, n) h
read-whole (b ∷ bs) f n h =
    let r = reading b bs f n h in
    let long = r.whole.whole in
    let four = r.four in
    omega (arith, read-length b bs f n r, length-drop 4 bs)

pub read-bytes : (bs : List ℕ) (f : Frame) (n : ℕ) → All (λ b. b < 256) bs → decoded bs ≡ Ok (f, n) → take n bs ≡ frame_bytes f
unfolding decoded
read-bytes [] f n all h = not-ok Short (f, n) h
read-bytes (b ∷ bs) f n all h =
    let r = reading b bs f n h in
    let k = r.kind in
    let m = big_number 4 bs in
    let rest = drop 4 bs in
    let below = All-tail (λ (x : ℕ). x < 256) b bs all in
    let body = body-again k m rest r.whole.may r.whole.whole r.told.right (All-drop (λ (x : ℕ). x < 256) 4 bs below) in
    let ns = numbers_at (fields k) rest in
    let vs = columns_at k m rest in
    let all-of = body_of k ns vs in
    let many : length all-of ≡ m = ap length body ∙ length-take-le m rest r.whole.whole in
    let front : big_bytes 4 (length all-of) ≡ take 4 bs = ap (big_bytes 4) many ∙ number-again 4 bs r.four below in
    let written : bytes_of_parts k ns vs ≡ b ∷ take (4 + m) bs =
    ap (λ (x : ℕ). x ∷ (big_bytes 4 (length all-of) ++ all-of)) r.named
    ∙ ap (λ (xs : List ℕ). b ∷ (xs ++ all-of)) front
    ∙ ap (λ (xs : List ℕ). b ∷ (take 4 bs ++ xs)) body
    ∙ ap (λ (xs : List ℕ). b ∷ xs) (sym (take-add 4 m bs)) in
    let size : n ≡ suc (4 + m) = omega (arith, read-length b bs f n r) in
    ap (λ (x : ℕ). take x (b ∷ bs)) size ∙ sym written
    ∙ sym (bytes-kept k ns vs (numbers-many (fields k) rest) (no-columns k m rest)) ∙ ap frame_bytes (read-frame b bs f n r)

-- ---- and it is in range

some-columns : (b : Bool) (x n : ℕ) (bs : List ℕ) → (if b then nat_le (x + 8) n && nat_le n (x + 64) && (n - x) % 8 == 0 else n == x) ≡ true
    → (if b then nat_le 1 (length (if b then values_at ((n - x) / 8) bs else [])) && nat_le (length (if b then values_at ((n - x) / 8) bs else [])) 8
    && list_all is_i64 (if b then values_at ((n - x) / 8) bs else []) else true) ≡ true
some-columns true x n bs h =
    let tells = tuple-length true x n refl h in
    let many = values-many ((n - x) / 8) bs in
    let vs = values_at ((n - x) / 8) bs in
    let low = tells.low in
    let high = tells.high in
    and_from (nat_le 1 (length vs) && nat_le (length vs) 8) (list_all is_i64 vs)
    (and_from (nat_le 1 (length vs)) (nat_le (length vs) 8) (le-leb 1 (length vs) (omega arith)) (le-leb (length vs) 8 (omega arith)))
    (values-within ((n - x) / 8) bs)
some-columns false x n bs h = refl

range-kept : (k : Kind) (ns : List ℕ) (vs : List ℤ) → length ns ≡ length (fields k) → (has_columns k ≡ false → vs ≡ [])
    → is_in_range (frame_of k ns vs) ≡ (all_hold (fields k) ns && has_some_columns k vs)
unfolding is_in_range
range-kept k ns vs few none =
    let f = frame_of k ns vs in
    ap (λ (x : Kind). all_hold (fields x) (numbers_in f) && has_some_columns x (values_in f)) (kind-kept k ns vs)
    ∙ ap (λ (xs : List ℕ). all_hold (fields k) xs && has_some_columns k (values_in f)) (numbers-kept k ns vs few)
    ∙ ap (λ (zs : List ℤ). all_hold (fields k) ns && has_some_columns k zs) (values-kept k ns vs none)

pub read-range : (bs : List ℕ) (f : Frame) (n : ℕ) → decoded bs ≡ Ok (f, n) → is_in_range f ≡ true
unfolding decoded
read-range [] f n h = not-ok Short (f, n) h
read-range (b ∷ bs) f n h =
    let r = reading b bs f n h in
    let k = r.kind in
    let m = big_number 4 bs in
    let rest = drop 4 bs in
    sym (ap is_in_range (read-frame b bs f n r))
    ∙ range-kept k (numbers_at (fields k) rest) (columns_at k m rest) (numbers-many (fields k) rest) (no-columns k m rest)
    ∙ and_from (all_hold (fields k) (numbers_at (fields k) rest)) (has_some_columns k (columns_at k m rest))
    (numbers-hold 5 (fields k) rest r.told.good)
    (some-columns (has_columns k) (fixed_length k) m (drop (fixed_length k) rest) r.whole.may)
