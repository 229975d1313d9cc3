-- Frames that were written are read back.
use Rattle.std.proofs.Common.{◌≡◌, ℕ, zero, suc, ◌≤◌, true, List, [], ◌∷◌, ◌++◌, length, drop, Option, Some, None, refl, ap, sym, ◌∙◌, arith, append_assoc}
use Rattle.std.specs.Prelude.{Ok, flat_map}
use Rattle.std.proofs.lemmas.Bool.{and_parts}
use Rattle.std.proofs.lemmas.List.{append-nil, length-append}
use Rattle.dpc_lists.specs.Lists.{list_all}
use Rattle.dpc_model.specs.declared.messages.Event.{Event}
use Rattle.dpc_model.specs.declared.tuples.Item.{Item}
use Rattle.dpc_model.specs.declared.tuples.Item.TheVariants.{Stable, Tentative, Passed, Boundary, Undo, RecDone}
use Rattle.stream_codec.specs.Frames.{frame_bytes, is_in_range}
use Rattle.stream_codec.specs.declared.frames.Frame.{Frame}
use Rattle.stream_codec.specs.declared.frames.Frame.TheVariants as frame
use Rattle.stream_codec.proofs.ReadBack.{frame-back}
use Rattle.frame_lists.specs.Lists.{entry_in, item_in, entry_frames, item_frames, part_of, part_at, parts_from, parts_of}
use Rattle.frame_lists.proofs.Steps.{one-more}

-- a frame has a byte
some-byte : (f : Frame) (more : List ℕ) → 1 ≤ length (frame_bytes f ++ more)
unfolding frame_bytes
some-byte f more = omega arith

drop_front : (xs ys : List ℕ) → drop (length xs) (xs ++ ys) ≡ ys
drop_front [] ys = refl
drop_front (x ∷ xs) ys = drop_front xs ys

module _ {T : Type 0} (part : Frame → Option T) (frame_of : T → Frame) (exact : (x : T) → part (frame_of x) ≡ Some x) where
  abbrev pub all_bytes : List T → List ℕ
  all_bytes xs = flat_map (λ x. frame_bytes (frame_of x)) xs

  first-part : (x : T) (more : List ℕ) → is_in_range (frame_of x) ≡ true → part_at part (frame_bytes (frame_of x) ++ more) ≡ Some (x, length (frame_bytes (frame_of x)))
  first-part x more range = ap (part_of part) (frame-back (frame_of x) more range) ∙ ap (λ (o : Option T). elim o [ None ↦ None | Some t ↦ Some (t, length (frame_bytes (frame_of x))) ]) (exact x)

  from-back : (xs : List T) (steps : ℕ) (before : List T) → list_all (λ x. is_in_range (frame_of x)) xs ≡ true → length (all_bytes xs) ≤ steps →
      parts_from part steps before (all_bytes xs) ≡ Ok (before ++ xs)
  from-back [] zero before range enough = ap (λ l. Ok l) (sym (append-nil before))
  from-back [] (suc steps) before range enough = ap (λ l. Ok l) (sym (append-nil before))
  from-back (x ∷ xs) zero before range enough =
      let some = some-byte (frame_of x) (all_bytes xs) in absurd (omega (arith, some, enough))
  from-back (x ∷ xs) (suc steps) before range enough =
      let both = and_parts (is_in_range (frame_of x)) (list_all (λ x. is_in_range (frame_of x)) xs) range in
      let own = frame_bytes (frame_of x) in
      let rest = all_bytes xs in
      let some = some-byte (frame_of x) [] in
      let alone : length (own ++ []) ≡ length own = ap length (append-nil own) in
      one-more part steps before (own ++ rest) x (length own) (some-byte (frame_of x) rest) (first-part x rest both.0)
      ∙ ap (parts_from part steps (before ++ x ∷ [])) (drop_front own rest)
      ∙ from-back xs steps (before ++ x ∷ []) both.1 (omega (arith, length-append own rest, enough, some, alone))
      ∙ ap (λ l. Ok l) (append_assoc before (x ∷ []) xs)

  pub back : (xs : List T) → list_all (λ x. is_in_range (frame_of x)) xs ≡ true → parts_of part (all_bytes xs) ≡ Ok xs
  unfolding parts_of
  back xs range = from-back xs (length (all_bytes xs)) [] range (omega arith)

pub item-exact : (i : Item) → item_in true (frame.Item i) ≡ Some i
item-exact (Stable k t) = refl
item-exact (Tentative t) = refl
item-exact (Passed b) = refl
item-exact (Boundary b m) = refl
item-exact (Undo n) = refl
item-exact RecDone = refl

pub entries-back : (events : List Event) → list_all (λ e. is_in_range (frame.Entry e)) events ≡ true → parts_of entry_in (entry_frames events) ≡ Ok events
unfolding entry_frames
entries-back events range = back entry_in (λ e. frame.Entry e) (λ e. refl) events range

pub items-back : (items : List Item) → list_all (λ i. is_in_range (frame.Item i)) items ≡ true → parts_of (item_in true) (item_frames items) ≡ Ok items
unfolding item_frames
items-back items range = back (item_in true) (λ i. frame.Item i) item-exact items range
