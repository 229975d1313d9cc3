-- The bytes of a frame are read back, and their beginnings are short.
use Rattle.std.proofs.Common.{◌≡◌, ℕ, zero, suc, ◌+◌, ◌-◌, ◌*◌, ◌/◌, ◌%◌, ◌^◌, ◌<◌, ◌≤◌, ◌==◌, nat_le, ◌&&◌, Bool, true, false, if◌then◌else◌, ℤ, pos, negsuc, SFits, None, Ok, Err, List, [], ◌∷◌, ◌++◌, length, slice_index, take, drop, refl, sym, ap, ◌∙◌, append_assoc, length-append, length-drop, eq-eqb, le-leb, leb-true, ltb-true, eqb-true, int_le, inl, inr, arith}
use Rattle.std.proofs.lemmas.Bool.{and_parts, and_from, cases_lt}
use Rattle.std.proofs.lemmas.Int.{to_z-of_z}
use Rattle.std.proofs.lemmas.List.{drop_at, drop-drop, length-take-le, get_or-drop}
use Rattle.std.specs.Int.{w64, cast_unsigned, cast_signed}
use Rattle.dpc_lists.specs.Lists.{list_all}
use Rattle.byteorder.specs.Endian.{big_bytes, big_number}
use Rattle.byteorder.specs.Numbers.{length-bytes_high_first, big_number-reads_back, big_from-take}
use Rattle.stream_codec.specs.Kinds.{width, holds, byte_of, fields, has_columns}
use Rattle.stream_codec.specs.Frames.{kind_in, numbers_in, values_in, widths, fixed_length, may_have_length, number_bytes, value_bytes, column_bytes, body_of, bytes_of_parts, frame_bytes, is_i64, all_hold, has_some_columns, is_in_range, frame_of, numbers_at, values_at, bad_place, columns_at, has_wrong_count, decoded, decoded_rest}
use Rattle.stream_codec.specs.declared.faults.DecodeFault.TheVariants.{Short}
use Rattle.stream_codec.specs.declared.frames.Frame.{Frame}
use Rattle.stream_codec.specs.declared.kinds.Field.{Field}
use Rattle.stream_codec.specs.declared.kinds.Field.TheVariants.{Number, Time, Clock, Actor, Client, Buckets}
use Rattle.stream_codec.specs.declared.kinds.Kind.{Kind}
use Rattle.stream_codec.specs.declared.kinds.Kind.TheVariants.{Stable, Tentative, Boundary, Undo, RecDone, Head, Tail, Passed, Phase, Deliver, Tick, Mill, Cut, Heal, Crash, Restart, Emit, Release}
use Rattle.stream_codec.proofs.Bytes.{length-body, length-number_bytes}
use Rattle.stream_codec.proofs.Named.{byte-named, frame-again, numbers-fit, no-values}
use Rattle.stream_codec.proofs.Parts.{count-right, columns-read}
use Rattle.stream_codec.proofs.Steps.{told-kind, told-no_length, told-length, told-short, told-whole, told-frame}

-- ---- numbers

holds-fits : (f : Field) (n : ℕ) → holds f n ≡ true → n < 256 ^ width f
holds-fits Number n h = omega (arith, ltb-true n (2 ^ 64) h)
holds-fits Time n h = omega (arith, ltb-true n (2 ^ 62) h)
holds-fits Clock n h = omega (arith, leb-true n (2 ^ 62) h)
holds-fits Actor n h = omega (arith, leb-true n 95 h)
holds-fits Client n h = omega (arith, leb-true n 15 h)
holds-fits Buckets n h = omega (arith, leb-true n 16 (and_parts (nat_le 1 n) (nat_le n 16) h).1)

number-back : (f : Field) (n : ℕ) (bs rest : List ℕ) → holds f n ≡ true
    → big_number (width f) ((big_bytes (width f) n ++ bs) ++ rest) ≡ n
number-back f n bs rest h =
    ap (big_number (width f)) (append_assoc (big_bytes (width f) n) bs rest)
    ∙ big_number-reads_back (width f) n (bs ++ rest) (holds-fits f n h)

behind-number : (w n : ℕ) (bs rest : List ℕ) → drop w ((big_bytes w n ++ bs) ++ rest) ≡ bs ++ rest
behind-number w n bs rest =
    ap (drop w) (append_assoc (big_bytes w n) bs rest) ∙ drop_at (big_bytes w n) (bs ++ rest) w (length-bytes_high_first w n)

none-bad : (place : ℕ) (fs : List Field) (ns rest : List ℕ) → all_hold fs ns ≡ true → bad_place place fs (number_bytes fs ns ++ rest) ≡ None
none-bad place [] ns rest h = refl
none-bad place (f ∷ fs) [] rest h = cc
none-bad place (f ∷ fs) (n ∷ ns) rest h =
    let p = and_parts (holds f n) (all_hold fs ns) h in
    let tail = none-bad (place + width f) fs ns rest p.1 in
    rw (number-back f n (number_bytes fs ns) rest p.0, p.0, behind-number (width f) n (number_bytes fs ns) rest) tail

numbers-back : (fs : List Field) (ns rest : List ℕ) → length ns ≡ length fs → all_hold fs ns ≡ true → numbers_at fs (number_bytes fs ns ++ rest) ≡ ns
numbers-back [] [] rest e h = refl
numbers-back [] (n ∷ ns) rest e h = absurd (omega arith)
numbers-back (f ∷ fs) [] rest e h = cc
numbers-back (f ∷ fs) (n ∷ ns) rest e h =
    let p = and_parts (holds f n) (all_hold fs ns) h in
    let tail = numbers-back fs ns rest (omega arith) p.1 in
    rw (number-back f n (number_bytes fs ns) rest p.0, behind-number (width f) n (number_bytes fs ns) rest, tail) refl

-- ---- values

fits-i64 : (z : ℤ) → is_i64 z ≡ true → SFits w64 z
fits-i64 (pos n) h =
    let low = leb-true n (2 ^ 63 - 1) (and_parts (int_le (negsuc (2 ^ 63 - 1)) (pos n)) (int_le (pos n) (pos (2 ^ 63 - 1))) h).1 in
    record { sfits = omega arith }
fits-i64 (negsuc n) h =
    let low = leb-true n (2 ^ 63 - 1) (and_parts (int_le (negsuc (2 ^ 63 - 1)) (negsuc n)) (int_le (negsuc n) (pos (2 ^ 63 - 1))) h).0 in
    record { sfits = omega arith }

unsigned-fits : (z : ℤ) → is_i64 z ≡ true → cast_unsigned w64 z < 256 ^ 8
unsigned-fits (pos n) h =
    let low = leb-true n (2 ^ 63 - 1) (and_parts (int_le (negsuc (2 ^ 63 - 1)) (pos n)) (int_le (pos n) (pos (2 ^ 63 - 1))) h).1 in
    omega arith
unsigned-fits (negsuc n) h = omega arith

value-back : (z : ℤ) (bs rest : List ℕ) → is_i64 z ≡ true
    → cast_signed w64 (big_number 8 ((big_bytes 8 (cast_unsigned w64 z) ++ bs) ++ rest)) ≡ z
value-back z bs rest h =
    ap (λ (xs : List ℕ). cast_signed w64 (big_number 8 xs)) (append_assoc (big_bytes 8 (cast_unsigned w64 z)) bs rest)
    ∙ ap (cast_signed w64) (big_number-reads_back 8 (cast_unsigned w64 z) (bs ++ rest) (unsigned-fits z h))
    ∙ to_z-of_z w64 z (fits-i64 z h)

values-back : (vs : List ℤ) (rest : List ℕ) → list_all is_i64 vs ≡ true → values_at (length vs) (value_bytes vs ++ rest) ≡ vs
values-back [] rest h = refl
values-back (v ∷ vs) rest h =
    let p = and_parts (is_i64 v) (list_all is_i64 vs) h in
    let bytes = (big_bytes 8 (cast_unsigned w64 v) ++ value_bytes vs) ++ rest in
    let first : cast_signed w64 (big_number 8 bytes) ≡ v = value-back v (value_bytes vs) rest p.0 in
    let later : values_at (length vs) (drop 8 bytes) ≡ vs =
    ap (values_at (length vs)) (behind-number 8 (cast_unsigned w64 v) (value_bytes vs) rest) ∙ values-back vs rest p.1 in
    ap (λ (z : ℤ). z ∷ values_at (length vs) (drop 8 bytes)) first ∙ ap (λ (zs : List ℤ). v ∷ zs) later

-- ---- lengths

some-length : (b : Bool) (x n : ℕ) (vs : List ℤ) → (if b then nat_le 1 (length vs) && nat_le (length vs) 8 && list_all is_i64 vs else true) ≡ true
    → n ≡ x + (if b then 8 * length vs else 0)
    → (if b then nat_le (x + 8) n && nat_le n (x + 64) && (n - x) % 8 == 0 else n == x) ≡ true
some-length true x n vs h e =
    let p = and_parts (nat_le 1 (length vs) && nat_le (length vs) 8) (list_all is_i64 vs) h in
    let q = and_parts (nat_le 1 (length vs)) (nat_le (length vs) 8) p.0 in
    let low = leb-true 1 (length vs) q.0 in
    let high = leb-true (length vs) 8 q.1 in
    and_from (nat_le (x + 8) n && nat_le n (x + 64)) ((n - x) % 8 == 0)
    (and_from (nat_le (x + 8) n) (nat_le n (x + 64)) (le-leb (x + 8) n (omega arith)) (le-leb n (x + 64) (omega arith)))
    (eq-eqb ((n - x) % 8) 0 (omega arith))
some-length false x n vs h e = eq-eqb n x (omega arith)

may-length : (k : Kind) (vs : List ℤ) (n : ℕ) → has_some_columns k vs ≡ true → n ≡ fixed_length k + (if has_columns k then 8 * length vs else 0) → may_have_length k n ≡ true
may-length k vs n h e = some-length (has_columns k) (fixed_length k) n vs h e

fixed-le : (k : Kind) → fixed_length k ≤ 25
fixed-le Stable = omega arith
fixed-le Tentative = omega arith
fixed-le Boundary = omega arith
fixed-le Undo = omega arith
fixed-le RecDone = omega arith
fixed-le Head = omega arith
fixed-le Tail = omega arith
fixed-le Passed = omega arith
fixed-le Phase = omega arith
fixed-le Deliver = omega arith
fixed-le Tick = omega arith
fixed-le Mill = omega arith
fixed-le Cut = omega arith
fixed-le Heal = omega arith
fixed-le Crash = omega arith
fixed-le Restart = omega arith
fixed-le Emit = omega arith
fixed-le Release = omega arith

few-bytes : (b : Bool) (x n : ℕ) → (if b then nat_le (x + 8) n && nat_le n (x + 64) && (n - x) % 8 == 0 else n == x) ≡ true → n ≤ x + 64
few-bytes true x n h =
    let p = and_parts (nat_le (x + 8) n && nat_le n (x + 64)) ((n - x) % 8 == 0) h in
    leb-true n (x + 64) (and_parts (nat_le (x + 8) n) (nat_le n (x + 64)) p.0).1
few-bytes false x n h = omega (arith, eqb-true n x h)

pub length-fits : (k : Kind) (n : ℕ) → may_have_length k n ≡ true → n < 256 ^ 4
length-fits k n h = omega (arith, few-bytes (has_columns k) (fixed_length k) n h, fixed-le k)

-- ---- the whole

-- what stands behind the fields of a tuple
behind-fields : (k : Kind) (ns : List ℕ) (vs : List ℤ) (more : List ℕ) → length ns ≡ length (fields k) → has_columns k ≡ true
    → drop (widths (fields k)) (body_of k ns vs ++ more) ≡ big_bytes 1 (length vs) ++ (value_bytes vs ++ more)
behind-fields k ns vs more few columns =
    let front = number_bytes (fields k) ns in
    let whole : body_of k ns vs ≡ front ++ (big_bytes 1 (length vs) ++ value_bytes vs) = rw columns refl in
    ap (λ (bs : List ℕ). drop (widths (fields k)) (bs ++ more)) whole
    ∙ ap (drop (widths (fields k))) (append_assoc front (big_bytes 1 (length vs) ++ value_bytes vs) more)
    ∙ drop_at front ((big_bytes 1 (length vs) ++ value_bytes vs) ++ more) (widths (fields k)) (length-number_bytes (fields k) ns few)

few-columns : (b : Bool) (vs : List ℤ) → b ≡ true → (if b then nat_le 1 (length vs) && nat_le (length vs) 8 && list_all is_i64 vs else true) ≡ true
    → (length vs ≤ 8) × (list_all is_i64 vs ≡ true)
few-columns true vs e h =
    let p = and_parts (nat_le 1 (length vs) && nat_le (length vs) 8) (list_all is_i64 vs) h in
    (leb-true (length vs) 8 (and_parts (nat_le 1 (length vs)) (nat_le (length vs) 8) p.0).1, p.1)
few-columns false vs e h = cc

record AreBack (k : Kind) (n : ℕ) (bs : List ℕ) (vs : List ℤ) : Type 0 where
  right : has_wrong_count k n bs ≡ false
  read : columns_at k n bs ≡ vs

columns-back : (k : Kind) (ns : List ℕ) (vs : List ℤ) (more : List ℕ) (n : ℕ) → length ns ≡ length (fields k) → has_some_columns k vs ≡ true
    → n ≡ fixed_length k + (if has_columns k then 8 * length vs else 0) → has_columns k ≡ true → AreBack k n (body_of k ns vs ++ more) vs
columns-back k ns vs more n few some size columns =
    let bs = body_of k ns vs ++ more in
    let place = widths (fields k) in
    let p = few-columns (has_columns k) vs columns some in
    let low = p.0 in
    let long : n ≡ place + 1 + 8 * length vs = size ∙ (rw columns refl) in
    let count : length vs ≡ (n - place - 1) / 8 = omega arith in
    let behind : drop place bs ≡ big_bytes 1 (length vs) ++ (value_bytes vs ++ more) = behind-fields k ns vs more few columns in
    let at : place + 0 ≡ place = omega arith in
    let told : length vs ≡ slice_index bs place =
    (let small : length vs ≡ length vs % 256 = omega arith in small)
    ∙ sym (ap (λ (xs : List ℕ). slice_index xs 0) behind) ∙ get_or-drop place bs 0 0 ∙ ap (slice_index bs) at in
    let values : value_bytes vs ++ more ≡ drop (place + 1) bs = sym (ap (drop 1) behind) ∙ drop-drop 1 place bs in
    record {
      right = count-right k n bs place (length vs) (length vs) columns refl count told refl;
      read = sym (columns-read k n bs (value_bytes vs ++ more) place vs columns refl
          (sym (values-back vs more p.1) ∙ ap (λ (c : ℕ). values_at c (value_bytes vs ++ more)) count) values);
    }

all-back : (k : Kind) (ns : List ℕ) (vs : List ℤ) (more : List ℕ) (n : ℕ) → length ns ≡ length (fields k) → has_some_columns k vs ≡ true
    → n ≡ fixed_length k + (if has_columns k then 8 * length vs else 0) → (has_columns k ≡ false → vs ≡ []) → AreBack k n (body_of k ns vs ++ more) vs
all-back k ns vs more n few some size none =
    (elim (has_columns k) as (λ (b : Bool). has_columns k ≡ b → AreBack k n (body_of k ns vs ++ more) vs) [
      | true ↦ λ e. columns-back k ns vs more n few some size e
      | false ↦ λ e. record { right = rw e refl; read = rw e (sym (none e)) }
    ]) refl

-- the bytes of a frame's parts, with any behind them
pub parts-back : (k : Kind) (ns : List ℕ) (vs : List ℤ) (more : List ℕ) → length ns ≡ length (fields k) → all_hold (fields k) ns ≡ true
    → has_some_columns k vs ≡ true → (has_columns k ≡ false → vs ≡ [])
    → decoded (bytes_of_parts k ns vs ++ more) ≡ Ok (frame_of k ns vs, 5 + length (body_of k ns vs))
parts-back k ns vs more few hold some none =
    let body = body_of k ns vs in
    let n = length body in
    let size = length-body k ns vs few in
    let may = may-length k vs n some size in
    let rest = (big_bytes 4 n ++ body) ++ more in
    let front = number_bytes (fields k) ns in
    let apart : body ++ more ≡ front ++ (column_bytes k vs ++ more) = append_assoc front (column_bytes k vs) more in
    let number : big_number 4 rest ≡ n =
    ap (big_number 4) (append_assoc (big_bytes 4 n) body more) ∙ big_number-reads_back 4 n (body ++ more) (length-fits k n may) in
    let back = all-back k ns vs more n few some size none in
    told-kind (byte_of k) rest k (byte-named k)
    ∙ told-length k rest (omega arith)
    ∙ ap (λ (m : ℕ). decoded_rest k m (drop 4 rest)) number
    ∙ ap (decoded_rest k n) (behind-number 4 n body more)
    ∙ told-whole k n (body ++ more) may (omega (arith, length-append body more))
    ∙ told-frame k n (body ++ more) (ap (bad_place 5 (fields k)) apart ∙ none-bad 5 (fields k) ns (column_bytes k vs ++ more) hold) back.right
    ∙ ap (λ (xs : List ℕ). Ok (frame_of k xs (columns_at k n (body ++ more)), 5 + n))
    (ap (numbers_at (fields k)) apart ∙ numbers-back (fields k) ns (column_bytes k vs ++ more) few hold)
    ∙ ap (λ (zs : List ℤ). Ok (frame_of k ns zs, 5 + n)) back.read

-- a beginning of them that is not the whole
pub parts-short : (k : Kind) (ns : List ℕ) (vs : List ℤ) (m : ℕ) → length ns ≡ length (fields k)
    → has_some_columns k vs ≡ true → m < length (bytes_of_parts k ns vs) → decoded (take m (bytes_of_parts k ns vs)) ≡ Err Short
unfolding decoded
parts-short k ns vs zero few some less = refl
parts-short k ns vs (suc m) few some less =
    let body = body_of k ns vs in
    let n = length body in
    let may = may-length k vs n some (length-body k ns vs few) in
    let bs = big_bytes 4 n ++ body in
    let size : length bs ≡ 4 + n = omega arith in
    let part : length (take m bs) ≡ m = length-take-le m bs (omega arith) in
    told-kind (byte_of k) (take m bs) k (byte-named k)
    ∙ (elim (cases_lt m 4) [
      | inl few' ↦ told-no_length k (take m bs) (omega arith)
      | inr many ↦
          told-length k (take m bs) (omega arith)
          ∙ ap (λ (x : ℕ). decoded_rest k x (drop 4 (take m bs))) (big_from-take 0 4 m bs (omega arith) ∙ big_number-reads_back 4 n body (length-fits k n may))
          ∙ told-short k n (drop 4 (take m bs)) may (omega (arith, length-drop 4 (take m bs)))
    ])

-- ---- of frames

pub frame-back : (f : Frame) (more : List ℕ) → is_in_range f ≡ true → decoded (frame_bytes f ++ more) ≡ Ok (f, length (frame_bytes f))
unfolding frame_bytes is_in_range
frame-back f more h =
    let p = and_parts (all_hold (fields (kind_in f)) (numbers_in f)) (has_some_columns (kind_in f) (values_in f)) h in
    let n = 5 + length (body_of (kind_in f) (numbers_in f) (values_in f)) in
    let size : n ≡ length (frame_bytes f) = omega arith in
    parts-back (kind_in f) (numbers_in f) (values_in f) more (numbers-fit f) p.0 p.1 (no-values f)
    ∙ ap (λ (x : Frame). Ok (x, n)) (frame-again f) ∙ ap (λ (m : ℕ). Ok (f, m)) size

pub frame-short : (f : Frame) (n : ℕ) → is_in_range f ≡ true → n < length (frame_bytes f) → decoded (take n (frame_bytes f)) ≡ Err Short
unfolding frame_bytes is_in_range
frame-short f n h less =
    parts-short (kind_in f) (numbers_in f) (values_in f) n (numbers-fit f)
    (and_parts (all_hold (fields (kind_in f)) (numbers_in f)) (has_some_columns (kind_in f) (values_in f)) h).1 less
