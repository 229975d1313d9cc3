-- Tuples and lists of them are read back, and no other bytes are read as them.
use Rattle.std.proofs.Common.{◌≡◌, ℕ, ◌^◌, ◌<◌, ◌≤◌, List, ◌++◌, length, get_or, take, drop, Option, Some, None, refl, ap, sym, ◌∙◌, append_assoc, length-append, arith, All}
use Rattle.std.specs.Prelude.{Result}
use Rattle.std.proofs.lemmas.List.{drop_at, take-append-drop}
use Rattle.std.proofs.lemmas.List.Elements.{All-drop}
use Rattle.byteorder.specs.Endian.{big_bytes}
use Rattle.dpc_model.specs.declared.tuples.Item.TheVariants as item
use Rattle.dpc_model.specs.declared.tuples.Tuple.{Tuple}
use Rattle.stream_codec.specs.Frames.{frame_bytes, tuple_bytes}
use Rattle.stream_codec.specs.declared.faults.DecodeFault.{DecodeFault}
use Rattle.stream_codec.specs.declared.frames.Frame.{Frame}
use Rattle.stream_codec.specs.declared.frames.Frame.TheVariants as frame
use Rattle.stream_codec.proofs.ReadBack.{frame-back}
use Rattle.stream_codec.proofs.Reprinted.{read-bytes}
use Rattle.frame_lists.specs.Lists.{part_of, part_at}
use Rattle.frame_lists.proofs.Steps.{is-read}
use Rattle.snapshot_form.specs.Bytes.{tuples_bytes, list_bytes}
use Rattle.snapshot_form.specs.Reading.{tuple_in, tuple_at, tuples_at}
use Rattle.snapshot_form.specs.Savable.{CanBeTold}
use Rattle.snapshot_form.proofs.Steps.{IsFront, HaveOwnBytes, front-told}
use Rattle.snapshot_form.proofs.Many.{IsReadBack, counted-back, counted-own, no-more-than-bytes}

tuple-back : (t : Tuple) → CanBeTold t → IsReadBack tuple_at tuple_bytes t
tuple-back t told rest =
    let own = tuple_bytes t in
    ap (λ (r : Result (Frame × ℕ) DecodeFault). elim (part_of tuple_in r) as (λ _. Option (Tuple × List ℕ)) [ None ↦ None | Some x ↦ Some (x.0, drop x.1 (own ++ rest)) ])
    (frame-back (frame.Item (item.Tentative t)) rest told)
    ∙ ap (λ (bs : List ℕ). Some (t, bs)) (drop_at own rest (length own) refl)

some-byte : (t : Tuple) → 1 ≤ length (tuple_bytes t)
unfolding frame_bytes
some-byte t = omega arith

-- a list of no more tuples than four bytes can count
pub list-back : (ts : List Tuple) (rest : List ℕ) → length (list_bytes ts) < 2 ^ 32 → All CanBeTold ts → tuples_at (list_bytes ts ++ rest) ≡ Some (ts, rest)
list-back ts rest short told =
    let few : length ts < 2 ^ 32 = omega (arith, no-more-than-bytes tuple_at tuple_bytes some-byte ts, length-append (big_bytes 4 (length ts)) (tuples_bytes ts)) in
    ap tuples_at (append_assoc (big_bytes 4 (length ts)) (tuples_bytes ts) rest)
    ∙ counted-back tuple_at tuple_bytes ts rest few (λ i d low. tuple-back (get_or ts i d) (told i d low))

-- ---- no other bytes

tuple-inverse : (f : Frame) (t : Tuple) → tuple_in f ≡ Some t → f ≡ frame.Item (item.Tentative t)
tuple-inverse (frame.Item (item.Stable k u)) t h = absurd cc
tuple-inverse (frame.Item (item.Tentative u)) t h = let same : u ≡ t = cc in ap (λ (v : Tuple). frame.Item (item.Tentative v)) same
tuple-inverse (frame.Item (item.Passed b)) t h = absurd cc
tuple-inverse (frame.Item (item.Boundary b m)) t h = absurd cc
tuple-inverse (frame.Item (item.Undo n)) t h = absurd cc
tuple-inverse (frame.Item item.RecDone) t h = absurd cc
tuple-inverse (frame.Head c) t h = absurd cc
tuple-inverse (frame.Tail a b c) t h = absurd cc
tuple-inverse (frame.Entry e) t h = absurd cc

tuple-own : HaveOwnBytes tuple_at tuple_bytes
tuple-own t bs rest low h = by-part (part_at tuple_in bs) refl h
  where
    by-part : (o : Option (Tuple × ℕ)) → part_at tuple_in bs ≡ o
        → ◌≡◌ {A = Option (Tuple × List ℕ)} (elim o [ None ↦ None | Some x ↦ Some (x.0, drop x.1 bs) ]) (Some (t, rest)) → IsFront (tuple_bytes t) bs rest
    by-part None e told = absurd cc
    by-part (Some (u, n)) e told =
        let read = is-read tuple_in bs u n e in
        let bytes : take n bs ≡ tuple_bytes u = read-bytes bs read.frame n low read.read ∙ ap frame_bytes (tuple-inverse read.frame u read.holds) in
        front-told tuple_bytes u t bs (drop n bs) rest told (record {
          are = sym (take-append-drop n bs) ∙ ap (λ (xs : List ℕ). xs ++ drop n bs) bytes;
          low = All-drop (λ (b : ℕ). b < 256) n bs low;
        })

pub list-own : HaveOwnBytes tuples_at list_bytes
list-own ts bs rest low h = counted-own tuple_at tuple_bytes tuple-own ts bs rest low h
