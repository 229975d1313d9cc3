-- The parts of a step of a pair.
use Rattle.std.proofs.Common.{◌≡◌, inl, inr, ℕ, ◌≤◌, Bool, true, false, cond, List, length, take, Option, None, Vec, Global, refl, sym, ap, subst, ◌∙◌, arith}
use Rattle.std.proofs.Math.Bool.{beq}
use Rattle.dpc_model.specs.Reading.{Reader}
use Rattle.dpc_model.specs.declared.tuples.Item.{Item}
use Rattle.dpc_model.specs.declared.tuples.Tuple.{Tuple}
use Rattle.back_channel.specs.Merging.{merge, longer, not_below, last_time, is_later, fresher, OneBegins}
use Rattle.back_channel.specs.Sides.{Covers, IsSide, WasHeld, tuples_in, ReadsAll, Drops}
use Rattle.back_channel.specs.Standing.{side_of, shown_of, Agrees, SidesAgree, Holds, Shows, HasReadBoth, HasGrown, IsAgreeing, HasChosen, HasCompared}
use Rattle.back_channel.specs.declared.known.Known.{Known}
use Rattle.back_channel.specs.declared.side.Side.{Side}
use Rattle.back_channel.specs.declared.pair.Pair.{Pair}
use Rattle.back_channel.specs.declared.pair.Told.{Told}
use Rattle.back_channel.proofs.Beginnings.{one-begins, first-begins, second-begins, longer-begins, begins-whole, begins-length}
use Rattle.back_channel.proofs.Comparing.{begins-true}
use Rattle.back_channel.proofs.Foldings.{all-onward}
use Rattle.back_channel.proofs.Holding.{side-rise, all-kept, one-before}

-- ---- both read

turned : (k : Known) (x y : Reader) → Covers k x y → Covers k y x
turned k x y h = record {
  first = h.second;
  second = h.first;
  long = let l = h.long in omega (arith, l);
  greater = let g = h.greater in omega (arith, g);
}

one-turned : (xs ys : List Tuple) → OneBegins xs ys → OneBegins ys xs
one-turned xs ys (inl h) = inr h
one-turned xs ys (inr h) = inl h

abbrev pub after_both : Pair → Known → Side → Side → Pair
after_both p k s t = record p { known = k; first = s; second = t }

pub reads-both : (items more : List Item) (p : Pair) (k1 k2 : Known) (s t : Side) → ReadsAll items p.known p.first k1 s → ReadsAll more k1 p.second k2 t
    → HasReadBoth items more p (after_both p k2 s t)
reads-both items more p k1 k2 s t h j = record {
  holds = λ x y x' y' holds left right o.
      let up = h.rises in
      let on = all-onward y y' more right in
      let o1 = one-turned y.stable x'.stable (one-before y.stable y'.stable x'.stable on.stable (one-turned x'.stable y'.stable o)) in
      let first = h.stands x x' y (record { covers = holds.covers; side = holds.on_first }) left o1 in
      let second = j.stands y y' x' (record { covers = turned k1 x' y first.covers; side = side-rise p.known.bound k1.bound p.second y up holds.on_second }) right (one-turned x'.stable y'.stable o) in
      record {
        covers = turned k2 y' x' second.covers;
        on_first = side-rise k1.bound k2.bound s x' j.rises first.side;
        on_second = second.side;
      };
  first_held = h.held;
  second_held = j.held;
  rises = let a = h.rises in let b = j.rises in omega (arith, a, b);
  first_floor = h.same_floor;
  second_floor = j.same_floor;
  same_shown = refl;
  same_agree = refl;
}

-- ---- the choice

pub drops-through : (b : ℕ) (s t u : Side) → t.floor ≡ s.floor → Drops b s t → Drops b t u → Drops b s u
drops-through b s t u floor h k = record {
  stands = λ x is. k.stands x (h.stands x is);
  same = λ low. k.same (omega (arith, low, floor)) ∙ h.same low;
  before = k.before ∙ h.before;
}

abbrev pub after_choice : Pair → Side → Side → Bool → ℕ → Pair
after_choice p s t second n = record p { first = s; second = t; shows_second = second; agree = n }

agrees-still : (n : ℕ) (p : Pair) (s t : Side) → Drops p.known.bound p.first s → Drops p.known.bound p.second t → IsAgreeing p n → (HasGrown p → SidesAgree p)
    → Agrees n s.tentative.items t.tentative.items
agrees-still n p s t h k (inl none) agree =
    subst (λ (m : ℕ). Agrees m s.tentative.items t.tentative.items) (sym none) (record { within_first = omega arith; within_second = omega arith; same = refl })
agrees-still n p s t h k (inr grown) agree =
    let first = h.same grown.0.first_floor in
    let second = k.same grown.0.second_floor in
    subst (λ (m : ℕ). Agrees m s.tentative.items t.tentative.items) (sym grown.1)
    (subst (λ (ts : List Tuple). Agrees p.agree ts t.tentative.items) (sym first)
    (subst (λ (ts : List Tuple). Agrees p.agree p.first.tentative.items ts) (sym second) (agree grown.0)))

fewer-still : (n : ℕ) (p : Pair) → IsAgreeing p n → n ≤ p.agree
fewer-still n p (inl none) = omega (arith, none)
fewer-still n p (inr grown) = let same = grown.1 in omega (arith, same)

pub chosen : (p : Pair) (s t : Side) (second : Bool) (n : ℕ) → Drops p.known.bound p.first s → Drops p.known.bound p.second t → IsAgreeing p n
    → ((x y : Reader) → IsSide p.known.bound p.first x → IsSide p.known.bound p.second y
    → second ≡ is_later (last_time (not_below p.known.bound y.tentative)) (last_time (not_below p.known.bound x.tentative)))
    → (p.first.floor ≤ p.known.bound → p.second.floor ≤ p.known.bound → (cond second t s).floor ≡ p.known.bound)
    → HasChosen p (after_choice p s t second n)
chosen p s t second n h k agreeing choice clean = record {
  shows = λ x y holds agree. record {
    holds = record { covers = holds.covers; on_first = h.stands x holds.on_first; on_second = k.stands y holds.on_second };
    choice = choice x y holds.on_first holds.on_second;
    clean = clean holds.on_first.low holds.on_second.low;
    agrees = agrees-still n p s t h k agreeing agree;
  };
  same_known = refl;
  fewer = fewer-still n p agreeing;
  first_same = h.same;
  second_same = k.same;
  first_before = h.before;
  second_before = k.before;
}

-- ---- what is shown

shown-is : (b : ℕ) (s t : Side) (x y : Reader) (second : Bool) → IsSide b s x → IsSide b t y → second ≡ is_later (last_time (not_below b y.tentative)) (last_time (not_below b x.tentative))
    → (cond second t s).floor ≡ b → (cond second t s).tentative.items ≡ fresher (not_below b x.tentative) (not_below b y.tentative)
shown-is b s t x y true h k choice clean =
    all-kept b t y k (omega (arith, clean)) ∙ ap (λ c. cond c (not_below b y.tentative) (not_below b x.tentative)) choice
shown-is b s t x y false h k choice clean =
    all-kept b s x h (omega (arith, clean)) ∙ ap (λ c. cond c (not_below b y.tentative) (not_below b x.tentative)) choice

pub shows-tentative : (p : Pair) (x y : Reader) → Shows p x y → shown_of p ≡ (merge x y).tentative
shows-tentative p x y h =
    shown-is p.known.bound p.first p.second x y p.shows_second h.holds.on_first h.holds.on_second h.choice h.clean
    ∙ ap (λ b. fresher (not_below b x.tentative) (not_below b y.tentative)) h.holds.covers.greater

pub go-together : (p : Pair) (x y : Reader) → Holds p x y → OneBegins x.stable y.stable
go-together p x y h = one-begins x.stable y.stable p.known.stable (record { is = h.covers.first }) (record { is = h.covers.second })

pub shows-stable : (p : Pair) (x y : Reader) → Shows p x y → p.known.stable ≡ (merge x y).stable
shows-stable p x y h =
    let covers = h.holds.covers in
    let begins = longer-begins x.stable y.stable p.known.stable (record { is = covers.first }) (record { is = covers.second }) in
    let long = covers.long in
    let o = go-together p x y h.holds in
    let first = begins-length x.stable (longer x.stable y.stable) (first-begins x.stable y.stable o) in
    let second = begins-length y.stable (longer x.stable y.stable) (second-begins x.stable y.stable o) in
    sym (begins-whole (longer x.stable y.stable) p.known.stable begins (omega (arith, long, first, second)))

-- ---- the comparison

both-same : (a b : Bool) → beq a b ≡ true → a ≡ b
both-same true true e = refl
both-same true false e = absurd (cc)
both-same false true e = absurd (cc)
both-same false false e = refl

pub held-none : (ts : List Tuple) (s : Side) → s.before ≡ None → WasHeld ts s → ts ≡ take (length ts) s.tentative.items
held-none ts s none h = h ∙ ap (λ (o : Option (Vec Tuple Global)). take (length ts) (tuples_in o s.tentative.items)) none

pub compared-same : (told : Told) (p : Pair) → beq told.second p.shows_second ≡ true → (side_of told.second p).before ≡ None → HasCompared told true p p
compared-same told p same none = record {
  frame = refl;
  answer = λ ts long held few agrees.
      let is = both-same told.second p.shows_second same in
      let begins = held-none ts (side_of told.second p) none held in
      sym (begins-true ts (shown_of p) (begins ∙ ap (λ (second : Bool). take (length ts) (side_of second p).tentative.items) is));
  agrees = λ ts long held few agrees. agrees;
}
