-- The byte of each kind, and the parts of each frame.
use Rattle.std.proofs.Common.{◌≡◌, ℕ, ◌==◌, Bool, true, false, if◌then◌else◌, ℤ, Some, List, [], ◌∷◌, length, slice_index, refl, sym, ap, ◌∙◌, eqb-true, arith}
use Rattle.dpc_model.specs.declared.messages.Event.TheVariants as entry
use Rattle.dpc_model.specs.declared.tuples.Item.TheVariants as item
use Rattle.stream_codec.specs.Kinds.{byte_of, first_named, kinds, kind_of, fields, has_columns}
use Rattle.stream_codec.specs.Frames.{kind_in, numbers_in, values_in, frame_of, bytes_of_parts, frame_bytes}
use Rattle.stream_codec.specs.declared.frames.Frame.{Frame}
use Rattle.stream_codec.specs.declared.frames.Frame.TheVariants as frame
use Rattle.stream_codec.specs.declared.kinds.Kind.{Kind}
use Rattle.stream_codec.specs.declared.kinds.Kind.TheVariants.{Stable, Tentative, Boundary, Undo, RecDone, Head, Tail, Passed, Phase, Deliver, Tick, Mill, Cut, Heal, Crash, Restart, Emit, Release}

-- ---- kinds

pub byte-named : (k : Kind) → kind_of (byte_of k) ≡ Some k
byte-named Stable = refl
byte-named Tentative = refl
byte-named Boundary = refl
byte-named Undo = refl
byte-named RecDone = refl
byte-named Head = refl
byte-named Tail = refl
byte-named Passed = refl
byte-named Phase = refl
byte-named Deliver = refl
byte-named Tick = refl
byte-named Mill = refl
byte-named Cut = refl
byte-named Heal = refl
byte-named Crash = refl
byte-named Restart = refl
byte-named Emit = refl
byte-named Release = refl

some-same : {X : Type 0} (x y : X) → Some x ≡ Some y → x ≡ y
some-same x y h = cc

first-byte : (ks : List Kind) (b : ℕ) (k : Kind) → first_named b ks ≡ Some k → byte_of k ≡ b
first-byte [] b k = λ h. cc
first-byte (x ∷ ks) b k =
    (elim (byte_of x == b) as (λ (t : Bool). (byte_of x == b) ≡ t → (if t then Some x else first_named b ks) ≡ Some k → byte_of k ≡ b) [
      | true ↦ λ e h. ap byte_of (sym (some-same x k h)) ∙ eqb-true _ _ e
      | false ↦ λ e h. first-byte ks b k h
    ]) refl

pub named-byte : (b : ℕ) (k : Kind) → kind_of b ≡ Some k → byte_of k ≡ b
named-byte b k h = first-byte kinds b k h

-- ---- a frame's parts make the frame

pub frame-again : (f : Frame) → frame_of (kind_in f) (numbers_in f) (values_in f) ≡ f
frame-again (frame.Item (item.Stable k t)) = refl
frame-again (frame.Item (item.Tentative t)) = refl
frame-again (frame.Item (item.Passed b)) = refl
frame-again (frame.Item (item.Boundary b m)) = refl
frame-again (frame.Item (item.Undo n)) = refl
frame-again (frame.Item item.RecDone) = refl
frame-again (frame.Head c) = refl
frame-again (frame.Tail s b t) = refl
frame-again (frame.Entry (entry.Phase p)) = refl
frame-again (frame.Entry (entry.Emit s t)) = refl
frame-again (frame.Entry (entry.Release s t)) = refl
frame-again (frame.Entry (entry.Cut a b)) = refl
frame-again (frame.Entry (entry.Heal a b)) = refl
frame-again (frame.Entry (entry.Crash n)) = refl
frame-again (frame.Entry (entry.Restart n inc)) = refl
frame-again (frame.Entry (entry.Deliver k)) = refl
frame-again (frame.Entry (entry.Tick a now)) = refl
frame-again (frame.Entry (entry.Mill n r)) = refl

pub numbers-fit : (f : Frame) → length (numbers_in f) ≡ length (fields (kind_in f))
numbers-fit (frame.Item (item.Stable k t)) = refl
numbers-fit (frame.Item (item.Tentative t)) = refl
numbers-fit (frame.Item (item.Passed b)) = refl
numbers-fit (frame.Item (item.Boundary b m)) = refl
numbers-fit (frame.Item (item.Undo n)) = refl
numbers-fit (frame.Item item.RecDone) = refl
numbers-fit (frame.Head c) = refl
numbers-fit (frame.Tail s b t) = refl
numbers-fit (frame.Entry (entry.Phase p)) = refl
numbers-fit (frame.Entry (entry.Emit s t)) = refl
numbers-fit (frame.Entry (entry.Release s t)) = refl
numbers-fit (frame.Entry (entry.Cut a b)) = refl
numbers-fit (frame.Entry (entry.Heal a b)) = refl
numbers-fit (frame.Entry (entry.Crash n)) = refl
numbers-fit (frame.Entry (entry.Restart n inc)) = refl
numbers-fit (frame.Entry (entry.Deliver k)) = refl
numbers-fit (frame.Entry (entry.Tick a now)) = refl
numbers-fit (frame.Entry (entry.Mill n r)) = refl

pub no-values : (f : Frame) → has_columns (kind_in f) ≡ false → values_in f ≡ []
no-values (frame.Item (item.Stable k t)) h = cc
no-values (frame.Item (item.Tentative t)) h = cc
no-values (frame.Item (item.Passed b)) h = refl
no-values (frame.Item (item.Boundary b m)) h = refl
no-values (frame.Item (item.Undo n)) h = refl
no-values (frame.Item item.RecDone) h = refl
no-values (frame.Head c) h = refl
no-values (frame.Tail s b t) h = refl
no-values (frame.Entry e) h = refl

-- ---- and the frame that parts make has these parts

none : (ns : List ℕ) → length ns ≡ 0 → [] ≡ ns
none [] h = refl
none (a ∷ ns) h = absurd (omega arith)

one : (ns : List ℕ) → length ns ≡ 1 → slice_index ns 0 ∷ [] ≡ ns
one [] h = absurd (omega arith)
one (a ∷ ns) h = ap (λ (xs : List ℕ). a ∷ xs) (none ns (omega arith))

two : (ns : List ℕ) → length ns ≡ 2 → slice_index ns 0 ∷ slice_index ns 1 ∷ [] ≡ ns
two [] h = absurd (omega arith)
two (a ∷ ns) h = ap (λ (xs : List ℕ). a ∷ xs) (one ns (omega arith))

three : (ns : List ℕ) → length ns ≡ 3 → slice_index ns 0 ∷ slice_index ns 1 ∷ slice_index ns 2 ∷ [] ≡ ns
three [] h = absurd (omega arith)
three (a ∷ ns) h = ap (λ (xs : List ℕ). a ∷ xs) (two ns (omega arith))

pub kind-kept : (k : Kind) (ns : List ℕ) (vs : List ℤ) → kind_in (frame_of k ns vs) ≡ k
kind-kept Stable ns vs = refl
kind-kept Tentative ns vs = refl
kind-kept Boundary ns vs = refl
kind-kept Undo ns vs = refl
kind-kept RecDone ns vs = refl
kind-kept Head ns vs = refl
kind-kept Tail ns vs = refl
kind-kept Passed ns vs = refl
kind-kept Phase ns vs = refl
kind-kept Deliver ns vs = refl
kind-kept Tick ns vs = refl
kind-kept Mill ns vs = refl
kind-kept Cut ns vs = refl
kind-kept Heal ns vs = refl
kind-kept Crash ns vs = refl
kind-kept Restart ns vs = refl
kind-kept Emit ns vs = refl
kind-kept Release ns vs = refl

pub numbers-kept : (k : Kind) (ns : List ℕ) (vs : List ℤ) → length ns ≡ length (fields k) → numbers_in (frame_of k ns vs) ≡ ns
numbers-kept Stable ns vs h = two ns h
numbers-kept Tentative ns vs h = one ns h
numbers-kept Boundary ns vs h = two ns h
numbers-kept Undo ns vs h = one ns h
numbers-kept RecDone ns vs h = none ns h
numbers-kept Head ns vs h = one ns h
numbers-kept Tail ns vs h = three ns h
numbers-kept Passed ns vs h = one ns h
numbers-kept Phase ns vs h = one ns h
numbers-kept Deliver ns vs h = one ns h
numbers-kept Tick ns vs h = two ns h
numbers-kept Mill ns vs h = two ns h
numbers-kept Cut ns vs h = two ns h
numbers-kept Heal ns vs h = two ns h
numbers-kept Crash ns vs h = one ns h
numbers-kept Restart ns vs h = two ns h
numbers-kept Emit ns vs h = two ns h
numbers-kept Release ns vs h = two ns h

pub values-kept : (k : Kind) (ns : List ℕ) (vs : List ℤ) → (has_columns k ≡ false → vs ≡ []) → values_in (frame_of k ns vs) ≡ vs
values-kept Stable ns vs h = refl
values-kept Tentative ns vs h = refl
values-kept Boundary ns vs h = sym (h refl)
values-kept Undo ns vs h = sym (h refl)
values-kept RecDone ns vs h = sym (h refl)
values-kept Head ns vs h = sym (h refl)
values-kept Tail ns vs h = sym (h refl)
values-kept Passed ns vs h = sym (h refl)
values-kept Phase ns vs h = sym (h refl)
values-kept Deliver ns vs h = sym (h refl)
values-kept Tick ns vs h = sym (h refl)
values-kept Mill ns vs h = sym (h refl)
values-kept Cut ns vs h = sym (h refl)
values-kept Heal ns vs h = sym (h refl)
values-kept Crash ns vs h = sym (h refl)
values-kept Restart ns vs h = sym (h refl)
values-kept Emit ns vs h = sym (h refl)
values-kept Release ns vs h = sym (h refl)

pub bytes-kept : (k : Kind) (ns : List ℕ) (vs : List ℤ) → length ns ≡ length (fields k) → (has_columns k ≡ false → vs ≡ [])
    → frame_bytes (frame_of k ns vs) ≡ bytes_of_parts k ns vs
unfolding frame_bytes
bytes-kept k ns vs few none' =
    let f = frame_of k ns vs in
    ap (λ (x : Kind). bytes_of_parts x (numbers_in f) (values_in f)) (kind-kept k ns vs)
    ∙ ap (λ (xs : List ℕ). bytes_of_parts k xs (values_in f)) (numbers-kept k ns vs few)
    ∙ ap (λ (zs : List ℤ). bytes_of_parts k ns zs) (values-kept k ns vs none')
