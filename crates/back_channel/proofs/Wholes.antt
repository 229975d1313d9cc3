-- A whole step of a pair.
use Rattle.std.proofs.Common.{◌≡◌, ℕ, ◌≤◌, Bool, true, false, cond, List, length, take, Option, None, Vec, Global, refl, sym, ap, subst, ◌∙◌, arith}
use Rattle.std.proofs.lemmas.List.{take-take, take_all}
use Rattle.dpc_model.specs.Reading.{Reader}
use Rattle.dpc_model.specs.declared.tuples.Item.{Item}
use Rattle.dpc_model.specs.declared.tuples.Tuple.{Tuple}
use Rattle.back_channel.specs.Merging.{Merged, merge, items_between, Leaves, OneBegins}
use Rattle.back_channel.specs.Sides.{tuples_in, WasHeld}
use Rattle.back_channel.specs.Standing.{side_of, shown_of, Agrees, SidesAgree, Holds, Shows, StandsFor, IsTold, HasReadBoth, HasGrown, HasChosen, with_agree, IsToldOf, IsNow, MayCompare}
use Rattle.back_channel.specs.declared.side.Side.{Side}
use Rattle.back_channel.specs.declared.pair.Pair.{Pair}
use Rattle.back_channel.specs.declared.pair.Told.{Told}
use Rattle.back_channel.proofs.Beginnings.{Begins, begins-length}
use Rattle.back_channel.proofs.Holding.{held-same}
use Rattle.back_channel.proofs.Stepping.{shows-tentative, shows-stable, held-none}

abbrev pub under_way : Pair → Pair
under_way p = record p { spent = true }

abbrev pub rested : Pair → Pair
rested p = record p { first = record p.first { before = None }; second = record p.second { before = None }; spent = false }

-- ---- the first tuples of both stay the same, where more come behind

front-more : (n : ℕ) (ts us : List Tuple) → n ≤ length ts → Begins ts us → take n us ≡ take n ts
front-more n ts us low h = sym (ap (take n) h.is ∙ take-take n (length ts) us low)

agrees-more : (n : ℕ) (ts us ts' us' : List Tuple) → Agrees n ts us → Begins ts ts' → Begins us us' → Agrees n ts' us'
agrees-more n ts us ts' us' h j k = record {
  within_first = let low = h.within_first in let more = begins-length ts ts' j in omega (arith, low, more);
  within_second = let low = h.within_second in let more = begins-length us us' k in omega (arith, low, more);
  same = front-more n ts ts' h.within_first j ∙ h.same ∙ sym (front-more n us us' h.within_second k);
}

-- a side that rested held its own list
held-own : (s : Side) → s.before ≡ None → WasHeld s.tentative.items s
held-own s none =
    sym (ap (λ (o : Option (Vec Tuple Global)). take (length s.tentative.items) (tuples_in o s.tentative.items)) none ∙ take_all (length s.tentative.items) s.tentative.items (omega arith))

-- ---- the parts

module _ (items more : List Item) (p q r : Pair) (told : Told) (x y x' y' : Reader) where
  grown-agrees : StandsFor p x y → HasReadBoth items more (under_way p) q → HasGrown q → SidesAgree q
  grown-agrees h read grown =
      let first = held-none p.first.tentative.items q.first grown.first_rests (read.first_held p.first.tentative.items (held-own p.first h.first_rests)) in
      let second = held-none p.second.tentative.items q.second grown.second_rests (read.second_held p.second.tentative.items (held-own p.second h.second_rests)) in
      subst (λ (n : ℕ). Agrees n q.first.tentative.items q.second.tentative.items) (sym read.same_agree)
      (agrees-more p.agree p.first.tentative.items p.second.tentative.items q.first.tentative.items q.second.tentative.items h.shows.agrees (record { is = first }) (record { is = second }))

  shows-then : StandsFor p x y → HasReadBoth items more (under_way p) q → HasChosen q r → Leaves x items x' → Leaves y more y' → OneBegins x'.stable y'.stable → Shows r x' y'
  shows-then h read choice left right o =
      let was : Holds (under_way p) x y = record { covers = h.shows.holds.covers; on_first = h.shows.holds.on_first; on_second = h.shows.holds.on_second } in
      choice.shows x' y' (read.holds x y x' y' was left right o) (λ grown. grown-agrees h read grown)

  told-of : StandsFor p x y → IsTold (under_way p) told → IsToldOf told (merge x y)
  told-of h note = record {
    stable = note.stable ∙ ap (λ (ts : List Tuple). length ts) (shows-stable p x y h.shows);
    bound = note.bound ∙ h.shows.holds.covers.greater;
    tentative = note.tentative ∙ ap (λ (ts : List Tuple). length ts) (shows-tentative p x y h.shows);
  }

  now-of : Shows r x' y' → IsNow r (merge x' y')
  now-of h = record { stable = shows-stable r x' y' h; bound = h.holds.covers.greater; tentative = shows-tentative r x' y' h }

  fewer-than : (second : Bool) (n : ℕ) (s t : Side) → n ≤ length s.tentative.items → n ≤ length t.tentative.items → n ≤ length (cond second t s).tentative.items
  fewer-than true n s t h k = k
  fewer-than false n s t h k = h

  -- the side that was shown holds what it had
  held-shown : (ts : List Tuple) (second : Bool) → HasReadBoth items more (under_way p) q → HasChosen q r → q.known.bound ≤ (side_of second p).floor
      → WasHeld ts (side_of second p) → WasHeld ts (side_of second r)
  held-shown ts true read choice low held =
      let floor = read.second_floor in
      held-same q.second r.second ts (choice.second_same (omega (arith, floor, low))) choice.second_before (read.second_held ts held)
  held-shown ts false read choice low held =
      let floor = read.first_floor in
      held-same q.first r.first ts (choice.first_same (omega (arith, floor, low))) choice.first_before (read.first_held ts held)

  rests : (second : Bool) → StandsFor p x y → (side_of second p).before ≡ None
  rests true h = h.second_rests
  rests false h = h.first_rests

  may-compare : StandsFor p x y → IsTold (under_way p) told → HasReadBoth items more (under_way p) q → HasChosen q r → Shows r x' y' → MayCompare told (merge x y) r
  may-compare h note read choice shows = record {
    held = λ stable bound.
        let shown = shows-tentative p x y h.shows in
        let old = note.bound in
        let same = ap (λ k. k.bound) choice.same_known in
        let clean = h.shows.clean in
        let own = held-own (side_of p.shows_second p) (rests p.shows_second h) in
        let was = held-shown (shown_of p) p.shows_second read choice (omega (arith, bound, old, same, clean)) own in
        subst (λ (ts : List Tuple). WasHeld ts (side_of told.second r)) shown (subst (λ (second : Bool). WasHeld (shown_of p) (side_of second r)) (sym note.second) was);
    fewer =
        let shown = ap (λ (ts : List Tuple). length ts) (shows-tentative p x y h.shows) in
        let few = choice.fewer in
        let same = read.same_agree in
        let within = fewer-than p.shows_second p.agree p.first p.second h.shows.agrees.within_first h.shows.agrees.within_second in
        omega (arith, shown, few, same, within);
    agrees = shows.agrees;
  }

-- ---- the end

finished : (p : Pair) (n : ℕ) (x y : Reader) → Shows p x y → Agrees n p.first.tentative.items p.second.tentative.items → StandsFor (rested (with_agree n p)) x y
finished p n x y h agrees = record {
  shows = record {
    holds = record {
      covers = h.holds.covers;
      on_first = record { many = h.holds.on_first.many; kept = h.holds.on_first.kept; late = h.holds.on_first.late; low = h.holds.on_first.low };
      on_second = record { many = h.holds.on_second.many; kept = h.holds.on_second.kept; late = h.holds.on_second.late; low = h.holds.on_second.low };
    };
    choice = h.choice;
    clean = floor_of p.shows_second ∙ h.clean;
    agrees = agrees;
  };
  first_rests = refl;
  second_rests = refl;
  live = refl;
}
  where
    floor_of : (second : Bool) → (side_of second (rested (with_agree n p))).floor ≡ (side_of second p).floor
    floor_of true = refl
    floor_of false = refl

pub stepped : (items more given : List Item) (p q r t : Pair) (told : Told) → IsTold (under_way p) told → HasReadBoth items more (under_way p) q → HasChosen q r
    → ((old new : Merged) → IsToldOf told old → IsNow r new → MayCompare told old r → given ≡ items_between old new)
    → ((old : Merged) → IsToldOf told old → MayCompare told old r → SidesAgree t)
    → t ≡ with_agree t.agree r
    → (x y x' y' : Reader) → StandsFor p x y → Leaves x items x' → Leaves y more y' → OneBegins x'.stable y'.stable
    → (given ≡ items_between (merge x y) (merge x' y')) × StandsFor (rested t) x' y'
stepped items more given p q r t told note read choice tells agrees frame x y x' y' h left right o =
    let shows = shows-then items more p q r told x y x' y' h read choice left right o in
    let old = told-of items more p q r told x y x' y' h note in
    let may = may-compare items more p q r told x y x' y' h note read choice shows in
    let given-is = tells (merge x y) (merge x' y') old (now-of items more p q r told x y x' y' shows) may in
    let agree = agrees (merge x y) old may in
    let first = ap (λ (u : Pair). u.first.tentative.items) frame in
    let second = ap (λ (u : Pair). u.second.tentative.items) frame in
    let on-r : Agrees t.agree r.first.tentative.items r.second.tentative.items =
    subst (λ (ts : List Tuple). Agrees t.agree ts r.second.tentative.items) first (subst (λ (ts : List Tuple). Agrees t.agree t.first.tentative.items ts) second agree) in
    (given-is, subst (λ (u : Pair). StandsFor (rested u) x' y') (sym frame) (finished r t.agree x' y' shows on-r))
