-- What the code holds of two readers.
use Rattle.std.specs.Prelude.{◌≡◌, ◌⊎◌, ℕ, ◌≤◌, Bool, true, false, if◌then◌else◌, List, length, take, None}
use Rattle.dpc_model.specs.Reading.{Reader}
use Rattle.dpc_model.specs.declared.tuples.Item.{Item}
use Rattle.dpc_model.specs.declared.tuples.Tuple.{Tuple}
use Rattle.back_channel.specs.Merging.{Merged, not_below, last_time, is_later, begins_with, Leaves, OneBegins}
use Rattle.back_channel.specs.Sides.{Covers, IsSide, WasHeld}
use Rattle.back_channel.specs.declared.side.Side.{Side}
use Rattle.back_channel.specs.declared.pair.Pair.{Pair}
use Rattle.back_channel.specs.declared.pair.Told.{Told}

abbrev pub side_of : Bool → Pair → Side
side_of second p = if second then p.second else p.first

abbrev pub shown_of : Pair → List Tuple
shown_of p = (side_of p.shows_second p).tentative.items

-- these are the first tuples of a list, so many
pub record IsFront (n : ℕ) (ts us : List Tuple) : Type 0 where
  pub count : n ≡ length ts
  pub begins : ts ≡ take (length ts) us

-- both lists have the same first tuples, so many
pub record Agrees (n : ℕ) (ts us : List Tuple) : Type 0 where
  pub within_first : n ≤ length ts
  pub within_second : n ≤ length us
  pub same : take n ts ≡ take n us

abbrev pub SidesAgree : Pair → Type 0
SidesAgree p = Agrees p.agree p.first.tentative.items p.second.tentative.items

-- both readers are held
pub record Holds (p : Pair) (x y : Reader) : Type 0 where
  pub covers : Covers p.known x y
  pub on_first : IsSide p.known.bound p.first x
  pub on_second : IsSide p.known.bound p.second y

-- and of the tentative tuples those are shown that go further
pub record Shows (p : Pair) (x y : Reader) : Type 0 where
  pub holds : Holds p x y
  pub choice : p.shows_second ≡ is_later (last_time (not_below p.known.bound y.tentative)) (last_time (not_below p.known.bound x.tentative))
  pub clean : (side_of p.shows_second p).floor ≡ p.known.bound
  pub agrees : SidesAgree p

-- a pair stands for two readers
pub record StandsFor (p : Pair) (x y : Reader) : Type 0 where
  pub shows : Shows p x y
  pub first_rests : p.first.before ≡ None
  pub second_rests : p.second.before ≡ None
  pub live : p.spent ≡ false

-- an earlier step wanted memory
abbrev pub IsSpent : Pair → Type 0
IsSpent p = p.spent ≡ true

-- ---- the parts of a step

-- what was told is noted
pub record IsTold (p : Pair) (told : Told) : Type 0 where
  pub stable : told.stable ≡ length p.known.stable
  pub bound : told.bound ≡ p.known.bound
  pub tentative : told.tentative ≡ length (shown_of p)
  pub second : told.second ≡ p.shows_second

-- each reader read its items
pub record HasReadBoth (items more : List Item) (p q : Pair) : Type 0 where
  pub holds : (x y x' y' : Reader) → Holds p x y → Leaves x items x' → Leaves y more y' → OneBegins x'.stable y'.stable → Holds q x' y'
  pub first_held : (ts : List Tuple) → WasHeld ts p.first → WasHeld ts q.first
  pub second_held : (ts : List Tuple) → WasHeld ts p.second → WasHeld ts q.second
  pub rises : p.known.bound ≤ q.known.bound
  pub first_floor : q.first.floor ≡ p.first.floor
  pub second_floor : q.second.floor ≡ p.second.floor
  pub same_shown : q.shows_second ≡ p.shows_second
  pub same_agree : q.agree ≡ p.agree

-- both tentative lists are as they were when the step began, but for more behind
pub record HasGrown (p : Pair) : Type 0 where
  pub first_floor : p.known.bound ≤ p.first.floor
  pub second_floor : p.known.bound ≤ p.second.floor
  pub first_rests : p.first.before ≡ None
  pub second_rests : p.second.before ≡ None

-- so many first tuples stay the same
abbrev pub IsAgreeing : Pair → ℕ → Type 0
IsAgreeing p n = (n ≡ 0) ⊎ (HasGrown p × (n ≡ p.agree))

-- it is chosen whose tentative tuples are shown
pub record HasChosen (p q : Pair) : Type 0 where
  pub shows : (x y : Reader) → Holds p x y → (HasGrown p → SidesAgree p) → Shows q x y
  pub same_known : q.known ≡ p.known
  pub fewer : q.agree ≤ p.agree
  pub first_same : p.known.bound ≤ p.first.floor → q.first.tentative.items ≡ p.first.tentative.items
  pub second_same : p.known.bound ≤ p.second.floor → q.second.tentative.items ≡ p.second.tentative.items
  pub first_before : q.first.before ≡ p.first.before
  pub second_before : q.second.before ≡ p.second.before

-- nothing changed but how many first tuples are known to be the same
abbrev pub with_agree : ℕ → Pair → Pair
with_agree n p = record p { agree = n }

-- the tuples that were told are compared with those that are shown
pub record HasCompared (told : Told) (begins : Bool) (p q : Pair) : Type 0 where
  pub frame : q ≡ with_agree q.agree p
  pub answer : (ts : List Tuple) → told.tentative ≡ length ts → WasHeld ts (side_of told.second p) → p.agree ≤ length ts → SidesAgree p
      → begins ≡ begins_with ts (shown_of p)
  pub agrees : (ts : List Tuple) → told.tentative ≡ length ts → WasHeld ts (side_of told.second p) → p.agree ≤ length ts → SidesAgree p
      → SidesAgree q

-- what was told was this merge, and what is shown is that one
pub record IsToldOf (told : Told) (old : Merged) : Type 0 where
  pub stable : told.stable ≡ length old.stable
  pub bound : told.bound ≡ old.bound
  pub tentative : told.tentative ≡ length old.tentative

pub record IsNow (p : Pair) (new : Merged) : Type 0 where
  pub stable : p.known.stable ≡ new.stable
  pub bound : p.known.bound ≡ new.bound
  pub tentative : shown_of p ≡ new.tentative

-- the tuples that were told can be compared, where nothing stable came and the bound stands
pub record MayCompare (told : Told) (old : Merged) (p : Pair) : Type 0 where
  pub held : told.stable ≡ length p.known.stable → told.bound ≡ p.known.bound → WasHeld old.tentative (side_of told.second p)
  pub fewer : p.agree ≤ length old.tentative
  pub agrees : SidesAgree p
