-- The reader's definition, a step at a time, forth and back.
use Rattle.std.proofs.Common.{◌≡◌, ℕ, ◌+◌, ◌<◌, ◌≤◌, nat_lt, not, if◌then◌else◌, Bool, true, false, Option, Some, None, Result, Ok, Err, List, ◌∷◌, length, drop, refl, ap, le-ltb, lt-ltb, ltb-false}
use Rattle.byteorder.specs.Endian.{big_number}
use Rattle.stream_codec.specs.Kinds.{fields, kind_of}
use Rattle.stream_codec.specs.Frames.{widths, bad_place, numbers_at, columns_at, has_wrong_count, may_have_length, frame_of, decoded, decoded_of, decoded_rest, decoded_body}
use Rattle.stream_codec.specs.declared.faults.DecodeFault.{DecodeFault}
use Rattle.stream_codec.specs.declared.faults.DecodeFault.TheVariants.{Short, BadKind, BadLength, BadValue}
use Rattle.stream_codec.specs.declared.frames.Frame.{Frame}
use Rattle.stream_codec.specs.declared.kinds.Kind.{Kind}

abbrev pub Told : Type 0
Told = Result (Frame × ℕ) DecodeFault

-- ---- forth

pub told-kind : (b : ℕ) (bs : List ℕ) (k : Kind) → kind_of b ≡ Some k → decoded (b ∷ bs) ≡ decoded_of k bs
unfolding decoded
told-kind b bs k named = ap (λ (o : Option Kind). (elim o as (λ _. Told) [ None ↦ Err (BadKind b) | Some x ↦ decoded_of x bs ])) named

pub told-no_length : (k : Kind) (bs : List ℕ) → length bs < 4 → decoded_of k bs ≡ Err Short
told-no_length k bs h = rw (lt-ltb (length bs) 4 h) refl

pub told-length : (k : Kind) (bs : List ℕ) → 4 ≤ length bs → decoded_of k bs ≡ decoded_rest k (big_number 4 bs) (drop 4 bs)
told-length k bs h = rw (le-ltb (length bs) 4 h) refl

pub told-short : (k : Kind) (n : ℕ) (bs : List ℕ) → may_have_length k n ≡ true → length bs < n → decoded_rest k n bs ≡ Err Short
told-short k n bs may h = rw (may, lt-ltb (length bs) n h) refl

pub told-whole : (k : Kind) (n : ℕ) (bs : List ℕ) → may_have_length k n ≡ true → n ≤ length bs → decoded_rest k n bs ≡ decoded_body k n bs
told-whole k n bs may h = rw (may, le-ltb (length bs) n h) refl

pub told-frame : (k : Kind) (n : ℕ) (bs : List ℕ) → bad_place 5 (fields k) bs ≡ None → has_wrong_count k n bs ≡ false
    → decoded_body k n bs ≡ Ok (frame_of k (numbers_at (fields k) bs) (columns_at k n bs), 5 + n)
told-frame k n bs good right = rw (good, decoded_body, right) refl

-- ---- back

pub not-ok : {X E : Type 0} {P : Type 0} (e : E) (x : X) → ◌≡◌ {A = Result X E} (Err e) (Ok x) → P
not-ok e x h = cc

ok-same : {X E : Type 0} (x y : X) → ◌≡◌ {A = Result X E} (Ok x) (Ok y) → x ≡ y
ok-same x y h = cc

pub record HasKind (b : ℕ) (bs : List ℕ) (r : Frame × ℕ) : Type 0 where
  pub kind : Kind
  pub named : kind_of b ≡ Some kind
  pub rest : decoded_of kind bs ≡ Ok r

pub kind-told : (b : ℕ) (bs : List ℕ) (r : Frame × ℕ) → decoded (b ∷ bs) ≡ Ok r → HasKind b bs r
unfolding decoded
kind-told b bs r =
    (elim (kind_of b) as (λ (o : Option Kind). kind_of b ≡ o → (elim o as (λ _. Told) [ None ↦ Err (BadKind b) | Some x ↦ decoded_of x bs ]) ≡ Ok r → HasKind b bs r) [
      | None ↦ λ e h. not-ok (BadKind b) r h
      | Some k ↦ λ e h. record { kind = k; named = e; rest = h }
    ]) refl

pub length-told : (k : Kind) (bs : List ℕ) (r : Frame × ℕ) → decoded_of k bs ≡ Ok r
    → (4 ≤ length bs) × (decoded_rest k (big_number 4 bs) (drop 4 bs) ≡ Ok r)
length-told k bs r =
    (elim (nat_lt (length bs) 4) as (λ (b : Bool). nat_lt (length bs) 4 ≡ b → (if b then Err Short else decoded_rest k (big_number 4 bs) (drop 4 bs)) ≡ Ok r
    → (4 ≤ length bs) × (decoded_rest k (big_number 4 bs) (drop 4 bs) ≡ Ok r)) [
      | true ↦ λ e h. not-ok Short r h
      | false ↦ λ e h. (ltb-false _ _ e, h)
    ]) refl

pub record IsWhole (k : Kind) (n : ℕ) (bs : List ℕ) (r : Frame × ℕ) : Type 0 where
  pub may : may_have_length k n ≡ true
  pub whole : n ≤ length bs
  pub rest : decoded_body k n bs ≡ Ok r

whole-told : (k : Kind) (n : ℕ) (bs : List ℕ) (r : Frame × ℕ) → may_have_length k n ≡ true
    → (if nat_lt (length bs) n then Err Short else decoded_body k n bs) ≡ Ok r → IsWhole k n bs r
whole-told k n bs r may =
    (elim (nat_lt (length bs) n) as (λ (b : Bool). nat_lt (length bs) n ≡ b → (if b then Err Short else decoded_body k n bs) ≡ Ok r → IsWhole k n bs r) [
      | true ↦ λ e h. not-ok Short r h
      | false ↦ λ e h. record { may = may; whole = ltb-false _ _ e; rest = h }
    ]) refl

pub rest-told : (k : Kind) (n : ℕ) (bs : List ℕ) (r : Frame × ℕ) → decoded_rest k n bs ≡ Ok r → IsWhole k n bs r
rest-told k n bs r =
    (elim (may_have_length k n) as (λ (b : Bool). may_have_length k n ≡ b
    → (if not b then Err (BadLength n) else if nat_lt (length bs) n then Err Short else decoded_body k n bs) ≡ Ok r → IsWhole k n bs r) [
      | true ↦ λ e h. whole-told k n bs r e h
      | false ↦ λ e h. not-ok (BadLength n) r h
    ]) refl

pub record IsFrame (k : Kind) (n : ℕ) (bs : List ℕ) (r : Frame × ℕ) : Type 0 where
  pub good : bad_place 5 (fields k) bs ≡ None
  pub right : has_wrong_count k n bs ≡ false
  pub same : (frame_of k (numbers_at (fields k) bs) (columns_at k n bs), 5 + n) ≡ r

frame-told : (k : Kind) (n : ℕ) (bs : List ℕ) (r : Frame × ℕ) → bad_place 5 (fields k) bs ≡ None
    → (if has_wrong_count k n bs then Err (BadValue (5 + widths (fields k))) else Ok (frame_of k (numbers_at (fields k) bs) (columns_at k n bs), 5 + n)) ≡ Ok r → IsFrame k n bs r
frame-told k n bs r good =
    (elim (has_wrong_count k n bs) as (λ (b : Bool). has_wrong_count k n bs ≡ b
    → (if b then Err (BadValue (5 + widths (fields k))) else Ok (frame_of k (numbers_at (fields k) bs) (columns_at k n bs), 5 + n)) ≡ Ok r → IsFrame k n bs r) [
      | true ↦ λ e h. not-ok (BadValue (5 + widths (fields k))) r h
      | false ↦ λ e h. record { good = good; right = e; same = ok-same _ r h }
    ]) refl

pub body-told : (k : Kind) (n : ℕ) (bs : List ℕ) (r : Frame × ℕ) → decoded_body k n bs ≡ Ok r → IsFrame k n bs r
body-told k n bs r =
    (elim (bad_place 5 (fields k) bs) as (λ (o : Option ℕ). bad_place 5 (fields k) bs ≡ o
    → (elim o as (λ _. Told) [
      | Some place ↦ Err (BadValue place)
      | None ↦ if has_wrong_count k n bs then Err (BadValue (5 + widths (fields k))) else Ok (frame_of k (numbers_at (fields k) bs) (columns_at k n bs), 5 + n)
    ]) ≡ Ok r → IsFrame k n bs r) [
      | Some place ↦ λ e h. not-ok (BadValue place) r h
      | None ↦ λ e h. frame-told k n bs r e h
    ]) refl
