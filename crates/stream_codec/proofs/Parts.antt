-- What the parts of the reader tell of the whole.
use Rattle.std.proofs.Common.{◌≡◌, ℕ, ◌+◌, ◌-◌, ◌/◌, ◌≤◌, Bool, true, false, ℤ, Some, None, Ok, Err, List, [], ◌∷◌, ◌&&◌, not, ◌==◌, if◌then◌else◌, length, get_or, slice_index, take, drop, refl, sym, ap, subst, ◌∙◌, eq-eqb, arith}
use Rattle.byteorder.specs.Endian.{big_number}
use Rattle.stream_codec.specs.Kinds.{width, holds, fields, has_columns, kind_of}
use Rattle.stream_codec.specs.Frames.{widths, bad_place, all_hold, numbers_at, columns_at, has_wrong_count, frame_of, decoded, decoded_of, decoded_rest, values_at, decoded_body, IsDecoding, AreNumbers, IsBadField, AreColumns, IsBadCount}
use Rattle.stream_codec.proofs.Steps.{told-kind, told-length, told-frame}
use Rattle.stream_codec.specs.declared.faults.DecodeFault.{DecodeFault}
use Rattle.stream_codec.specs.declared.faults.DecodeFault.TheVariants.{NoMemory, Short, BadKind, BadLength, BadValue}
use Rattle.stream_codec.specs.declared.frames.Frame.{Frame}
use Rattle.stream_codec.specs.declared.kinds.Field.{Field}
use Rattle.stream_codec.specs.declared.kinds.Kind.{Kind}
use Rattle.stream_codec.specs.declared.kinds.Kind.TheVariants.{Stable, Tentative, Boundary, Undo, RecDone, Head, Tail, Passed, Phase, Deliver, Tick, Mill, Cut, Heal, Crash, Restart, Emit, Release}

-- where no field is out of its range, each holds its number
pub numbers-hold : (place : ℕ) (fs : List Field) (bs : List ℕ) → bad_place place fs bs ≡ None → all_hold fs (numbers_at fs bs) ≡ true
numbers-hold place [] bs h = refl
numbers-hold place (f ∷ fs) bs h =
    (elim (holds f (big_number (width f) bs)) as (λ (b : Bool). (if b then bad_place (place + width f) fs (drop (width f) bs) else Some place) ≡ None → (b && all_hold fs (numbers_at fs (drop (width f) bs))) ≡ true) [
      | true ↦ λ e. numbers-hold (place + width f) fs (drop (width f) bs) e
      | false ↦ λ e. cc
    ]) h

-- numbers behind the fields' change nothing
all_hold-take : (fs : List Field) (ns : List ℕ) → all_hold fs (take (length fs) ns) ≡ all_hold fs ns
all_hold-take [] ns = refl
all_hold-take (f ∷ fs) [] = refl
all_hold-take (f ∷ fs) (n ∷ ns) = ap (λ (b : Bool). holds f n && b) (all_hold-take fs ns)

pub all-hold : (fs : List Field) (bs ns : List ℕ) → AreNumbers fs bs ns → all_hold fs ns ≡ true
all-hold fs bs ns h = sym (all_hold-take fs ns) ∙ ap (all_hold fs) h.read ∙ numbers-hold 5 fs bs h.good

frame_of-three : (k : Kind) (a b c : ℕ) (vs : List ℤ) → frame_of k (take (length (fields k)) (a ∷ b ∷ c ∷ [])) vs ≡ frame_of k (a ∷ b ∷ c ∷ []) vs
frame_of-three Stable a b c vs = refl
frame_of-three Tentative a b c vs = refl
frame_of-three Boundary a b c vs = refl
frame_of-three Undo a b c vs = refl
frame_of-three RecDone a b c vs = refl
frame_of-three Head a b c vs = refl
frame_of-three Tail a b c vs = refl
frame_of-three Passed a b c vs = refl
frame_of-three Phase a b c vs = refl
frame_of-three Deliver a b c vs = refl
frame_of-three Tick a b c vs = refl
frame_of-three Mill a b c vs = refl
frame_of-three Cut a b c vs = refl
frame_of-three Heal a b c vs = refl
frame_of-three Crash a b c vs = refl
frame_of-three Restart a b c vs = refl
frame_of-three Emit a b c vs = refl
frame_of-three Release a b c vs = refl

frame_of-take : (k : Kind) (ns : List ℕ) (vs : List ℤ) → length ns ≡ 3 → frame_of k (take (length (fields k)) ns) vs ≡ frame_of k ns vs
frame_of-take k [] vs h = absurd (omega arith)
frame_of-take k (a ∷ []) vs h = absurd (omega arith)
frame_of-take k (a ∷ b ∷ []) vs h = absurd (omega arith)
frame_of-take k (a ∷ b ∷ c ∷ []) vs h = frame_of-three k a b c vs
frame_of-take k (a ∷ b ∷ c ∷ d ∷ ns) vs h = absurd (omega arith)

minus : (n w : ℕ) → n - w - 1 ≡ n - (w + 1)
minus n w = omega arith

-- the count is the one that the length says
pub count-right : (k : Kind) (n : ℕ) (bs : List ℕ) (place count told : ℕ) → has_columns k ≡ true → place ≡ widths (fields k)
    → count ≡ (n - place - 1) / 8 → told ≡ slice_index bs place → told ≡ count → has_wrong_count k n bs ≡ false
count-right k n bs place count told columns e f g h =
    let same : slice_index bs (widths (fields k)) ≡ (n - (widths (fields k) + 1)) / 8 =
    ap (slice_index bs) (sym e) ∙ sym g ∙ h ∙ f ∙ ap (λ (m : ℕ). m / 8) (ap (λ (p : ℕ). n - p - 1) e ∙ minus n (widths (fields k))) in
    rw columns (ap not (eq-eqb _ _ same))

-- a frame
pub body-read : (k : Kind) (n : ℕ) (bs ns : List ℕ) (vs : List ℤ) (f : Frame) → AreNumbers (fields k) bs ns → AreColumns k n bs vs → f ≡ frame_of k ns vs
    → decoded_body k n bs ≡ Ok (f, 5 + n)
body-read k n bs ns vs f a b e =
    let same : frame_of k (numbers_at (fields k) bs) (columns_at k n bs) ≡ f =
    ap (λ (xs : List ℕ). frame_of k xs (columns_at k n bs)) (sym a.read)
    ∙ frame_of-take k ns (columns_at k n bs) a.size ∙ ap (frame_of k ns) (sym b.read) ∙ sym e in
    rw (a.good, decoded_body, b.right, same) refl

-- a field that is out of its range
pub bad-field : (k : Kind) (n : ℕ) (bs : List ℕ) (e : DecodeFault) → IsBadField (fields k) bs e → IsDecoding (decoded_body k n bs) (Err e)
bad-field k n bs e h =
    let told : decoded_body k n bs ≡ Err (BadValue h.place) = rw (h.bad, decoded_body) refl in
    subst (λ (x : DecodeFault). IsDecoding (decoded_body k n bs) (Err x)) (sym h.told) told

wrong-count : (k : Kind) (n : ℕ) (bs ns : List ℕ) → AreNumbers (fields k) bs ns → has_wrong_count k n bs ≡ true
    → decoded_body k n bs ≡ Err (BadValue (5 + widths (fields k)))
wrong-count k n bs ns a h = rw (a.good, decoded_body, h) refl

-- a wrong count, or no memory for a frame
pub bad-count : (k : Kind) (n : ℕ) (bs ns : List ℕ) (e : DecodeFault) → AreNumbers (fields k) bs ns → IsBadCount k n bs e → IsDecoding (decoded_body k n bs) (Err e)
bad-count k n bs ns NoMemory a h = ((frame_of k (numbers_at (fields k) bs) (columns_at k n bs), 5 + n), told-frame k n bs a.good h)
bad-count k n bs ns Short a h = wrong-count k n bs ns a h.0 ∙ ap Err (sym h.1)
bad-count k n bs ns (BadKind x) a h = wrong-count k n bs ns a h.0 ∙ ap Err (sym h.1)
bad-count k n bs ns (BadLength x) a h = wrong-count k n bs ns a h.0 ∙ ap Err (sym h.1)
bad-count k n bs ns (BadValue x) a h = wrong-count k n bs ns a h.0 ∙ ap Err (sym h.1)

-- the values behind a right count
pub columns-read : (k : Kind) (n : ℕ) (bs behind : List ℕ) (place : ℕ) (vs : List ℤ) → has_columns k ≡ true → place ≡ widths (fields k)
    → vs ≡ values_at ((n - place - 1) / 8) behind → behind ≡ drop (place + 1) bs → vs ≡ columns_at k n bs
columns-read k n bs behind place vs columns e f g =
    let count : (n - place - 1) / 8 ≡ (n - (widths (fields k) + 1)) / 8 = ap (λ (m : ℕ). m / 8) (ap (λ (p : ℕ). n - p - 1) e ∙ minus n (widths (fields k))) in
    let whole : columns_at k n bs ≡ values_at ((n - (widths (fields k) + 1)) / 8) (drop (widths (fields k) + 1) bs) = rw columns refl in
    f ∙ ap (λ (m : ℕ). values_at m behind) count
    ∙ ap (values_at ((n - (widths (fields k) + 1)) / 8)) (g ∙ ap (λ (p : ℕ). drop (p + 1) bs) e) ∙ sym whole

-- behind the byte of a kind and the length stands the rest
pub front : (xs rest behind : List ℕ) (k : Kind) (n : ℕ) → (length xs == 0) ≡ false → kind_of (get_or xs 0 0) ≡ Some k
    → rest ≡ drop 1 xs → 4 ≤ length rest → n ≡ big_number 4 rest → behind ≡ drop 4 rest → decoded xs ≡ decoded_rest k n behind
front [] rest behind k n some named a long b c = cc
front (x ∷ xs) rest behind k n some named a long b c =
    let whole : decoded_of k xs ≡ decoded_rest k (big_number 4 xs) (drop 4 xs) = told-length k xs (subst (λ (r : List ℕ). 4 ≤ length r) a long) in
    let all : decoded (x ∷ xs) ≡ decoded_of k xs = told-kind x xs k named in
    all ∙ whole ∙ ap (λ (r : List ℕ). decoded_rest k (big_number 4 r) (drop 4 r)) (sym a)
    ∙ ap (λ (m : ℕ). decoded_rest k m (drop 4 rest)) (sym b) ∙ ap (decoded_rest k n) (sym c)
