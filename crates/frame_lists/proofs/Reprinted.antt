-- Frames that are read are those that would be written.
use Rattle.std.proofs.Common.{◌≡◌, ℕ, zero, suc, ◌<◌, true, List, [], ◌∷◌, ◌++◌, length, take, drop, Option, Some, None, refl, ap, sym, ◌∙◌, append_assoc, All}
use Rattle.std.specs.Prelude.{Ok, Err, Result}
use Rattle.std.proofs.lemmas.List.{append-nil, take-append-drop}
use Rattle.std.proofs.lemmas.List.Elements.{All-drop}
use Rattle.dpc_model.specs.declared.messages.Event.{Event}
use Rattle.dpc_model.specs.declared.tuples.Item.{Item}
use Rattle.dpc_model.specs.declared.tuples.Item.TheVariants.{Stable, Tentative, Passed, Boundary, Undo, RecDone}
use Rattle.stream_codec.specs.Frames.{frame_bytes}
use Rattle.stream_codec.specs.declared.frames.Frame.{Frame}
use Rattle.stream_codec.specs.declared.frames.Frame.TheVariants as frame
use Rattle.stream_codec.proofs.Reprinted.{read-bytes}
use Rattle.frame_lists.specs.Lists.{entry_in, item_in, entry_frames, item_frames, part_at, parts_from, parts_of}
use Rattle.frame_lists.proofs.ReadBack.{all_bytes, item-exact}
use Rattle.frame_lists.proofs.Steps.{is-read}

ok-is : {X : Type 0} (x y : X) → ◌≡◌ {A = Result X ℕ} (Ok x) (Ok y) → x ≡ y
ok-is x y h = cc

module _ {T : Type 0} (part : Frame → Option T) (frame_of : T → Frame) (exact : (x : T) → part (frame_of x) ≡ Some x)
    (inverse : (f : Frame) (x : T) → part f ≡ Some x → f ≡ frame_of x) where
  record AreBytes (before : List T) (bytes : List ℕ) (xs : List T) : Type 0 where
    more : List T
    all : xs ≡ before ++ more
    are : bytes ≡ all_bytes part frame_of exact more

  from-read : (steps : ℕ) (before : List T) (bytes : List ℕ) (xs : List T) → All (λ b. b < 256) bytes → parts_from part steps before bytes ≡ Ok xs → AreBytes before bytes xs
  from-read zero before [] xs low h = record { more = []; all = sym (ok-is before xs h) ∙ sym (append-nil before); are = refl }
  from-read (suc steps) before [] xs low h = record { more = []; all = sym (ok-is before xs h) ∙ sym (append-nil before); are = refl }
  from-read zero before (b ∷ bytes) xs low h = absurd cc
  from-read (suc steps) before (b ∷ bytes) xs low h = by-part (part_at part (b ∷ bytes)) refl h (λ x n more. from-read steps (before ++ x ∷ []) (drop n (b ∷ bytes)) xs
      (All-drop (λ (y : ℕ). y < 256) n (b ∷ bytes) low) more)
    where
      by-part : (o : Option (T × ℕ)) → part_at part (b ∷ bytes) ≡ o →
          ◌≡◌ {A = Result (List T) ℕ} (elim o [ None ↦ Err (length before) | Some x ↦ parts_from part steps (before ++ x.0 ∷ []) (drop x.1 (b ∷ bytes)) ]) (Ok xs) →
          ((x : T) (n : ℕ) → parts_from part steps (before ++ x ∷ []) (drop n (b ∷ bytes)) ≡ Ok xs → AreBytes (before ++ x ∷ []) (drop n (b ∷ bytes)) xs) → AreBytes before (b ∷ bytes) xs
      by-part None e h next = absurd cc
      by-part (Some (x, n)) e h next =
          let whole = b ∷ bytes in
          let first = is-read part whole x n e in
          let rest = next x n h in
          let own : take n whole ≡ frame_bytes (frame_of x) = read-bytes whole first.frame n low first.read ∙ ap frame_bytes (inverse first.frame x first.holds) in
          record {
            more = x ∷ rest.more;
            all = rest.all ∙ append_assoc before (x ∷ []) rest.more;
            are = sym (take-append-drop n whole) ∙ ap (λ l. l ++ drop n whole) own ∙ ap (λ l. frame_bytes (frame_of x) ++ l) rest.are;
          }

  pub reprinted : (bytes : List ℕ) (xs : List T) → All (λ b. b < 256) bytes → parts_of part bytes ≡ Ok xs → bytes ≡ all_bytes part frame_of exact xs
  unfolding parts_of
  reprinted bytes xs low h =
      let read = from-read (length bytes) [] bytes xs low h in
      read.are ∙ ap (all_bytes part frame_of exact) (sym read.all)

entry-inverse : (f : Frame) (e : Event) → entry_in f ≡ Some e → f ≡ frame.Entry e
entry-inverse (frame.Entry e) x h = let same : e ≡ x = cc in ap (λ y. frame.Entry y) same
entry-inverse (frame.Item i) x h = absurd cc
entry-inverse (frame.Head c) x h = absurd cc
entry-inverse (frame.Tail a b c) x h = absurd cc

item-same : (i j : Item) → Some i ≡ Some j → frame.Item i ≡ frame.Item j
item-same i j h = let same : i ≡ j = cc in ap (λ y. frame.Item y) same

item-inverse : (f : Frame) (i : Item) → item_in true f ≡ Some i → f ≡ frame.Item i
item-inverse (frame.Item (Stable k t)) i h = item-same (Stable k t) i h
item-inverse (frame.Item (Tentative t)) i h = item-same (Tentative t) i h
item-inverse (frame.Item (Passed b)) i h = item-same (Passed b) i h
item-inverse (frame.Item (Boundary b m)) i h = item-same (Boundary b m) i h
item-inverse (frame.Item (Undo n)) i h = item-same (Undo n) i h
item-inverse (frame.Item RecDone) i h = item-same RecDone i h
item-inverse (frame.Head c) i h = absurd cc
item-inverse (frame.Tail a b c) i h = absurd cc
item-inverse (frame.Entry e) i h = absurd cc

pub entries-reprinted : (bytes : List ℕ) (events : List Event) → All (λ b. b < 256) bytes → parts_of entry_in bytes ≡ Ok events → bytes ≡ entry_frames events
unfolding entry_frames
entries-reprinted bytes events low h = reprinted entry_in (λ e. frame.Entry e) (λ e. refl) entry-inverse bytes events low h

pub items-reprinted : (bytes : List ℕ) (items : List Item) → All (λ b. b < 256) bytes → parts_of (item_in true) bytes ≡ Ok items → bytes ≡ item_frames items
unfolding item_frames
items-reprinted bytes items low h = reprinted (item_in true) (λ i. frame.Item i) item-exact item-inverse bytes items low h
