-- Times of tuples, and the tuples that are not below a time.
use Rattle.std.proofs.Common.{◌≡◌, ℕ, ◌≤◌, ◌<◌, ◌-◌, suc, slice_get, nat_le, Bool, true, false, cond, List, [], ◌∷◌, ◌++◌, length, take, Option, Some, None, refl, sym, ap, subst, ◌∙◌, arith}
use Rattle.std.specs.List.{All}
use Rattle.std.proofs.lemmas.Bool.{le-leb}
use Rattle.std.proofs.lemmas.List.{append-nil}
use Rattle.std.proofs.lemmas.List.Elements.{All-head, All-tail, filter-append}
use Rattle.std.proofs.lemmas.Grind.{common_steps}
use Rattle.dpc_model.specs.Streams.{NoneBelow, InOrder, time_of}
use Rattle.dpc_model.specs.declared.tuples.Tuple.{Tuple}
use Rattle.back_channel.specs.Merging.{not_below, last_time}
use Rattle.back_channel.specs.Ordered.{IsUpto, IsOrderedIf}
use Rattle.back_channel.proofs.Beginnings.{Begins, begins-append, begins-through}
use Rattle.std.specs.Option.{option_to_list}

-- ---- the last time

pub last-behind : (us : List Tuple) (t : Tuple) → last_time (us ++ t ∷ []) ≡ Some t.stime
last-behind [] t = refl
last-behind (u ∷ []) t = refl
last-behind (u ∷ v ∷ us) t = last-behind (v ∷ us) t

pub none-last : (ts : List Tuple) → last_time ts ≡ None → ts ≡ []
none-last [] e = refl
none-last (t ∷ []) e = absurd (cc)
none-last (t ∷ u ∷ ts) e = absurd (let none : u ∷ ts ≡ [] = none-last (u ∷ ts) e in cc)

last-cons : (t : Tuple) (us : List Tuple) (n : ℕ) → last_time us ≡ Some n → last_time (t ∷ us) ≡ Some n
last-cons t [] n e = absurd (cc)
last-cons t (u ∷ us) n e = e

-- ---- order

none-weaker : (m n : ℕ) (ts : List Tuple) → m ≤ n → NoneBelow time_of n ts → NoneBelow time_of m ts
none-weaker m n [] low h = tt
none-weaker m n (t ∷ ts) low h = (let first = h.0 in omega (arith, first, low), none-weaker m n ts low h.1)

pub ordered-push : (ts : List Tuple) (t : Tuple) → InOrder ts → IsUpto t.stime (last_time ts) → InOrder (ts ++ t ∷ [])
ordered-push [] t o k = (tt, tt)
ordered-push (u ∷ []) t o k = ((k, tt), (tt, tt))
ordered-push (u ∷ v ∷ us) t o k =
    let rest = ordered-push (v ∷ us) t o.1 k in
    ((o.0.0, none-weaker u.stime v.stime (us ++ t ∷ []) o.0.0 rest.0), rest)

-- ---- the tuples that are not below a time

pub late-all : (b : ℕ) (ts : List Tuple) → All (λ (t : Tuple). b ≤ t.stime) ts → not_below b ts ≡ ts
late-all b [] all = refl
late-all b (t ∷ ts) all =
    let late : nat_le b t.stime ≡ true = le-leb b t.stime (All-head (λ (u : Tuple). b ≤ u.stime) t ts all) in
    rw late (ap (λ us. t ∷ us) (late-all b ts (All-tail (λ (u : Tuple). b ≤ u.stime) t ts all)))

-- a filter by a later time is as strong
pub late-again : (b c : ℕ) (ts : List Tuple) → b ≤ c → not_below c (not_below b ts) ≡ not_below c ts
late-again b c [] low = refl
late-again b c (t ∷ ts) low =
    (elim (nat_le b t.stime) as (λ x. nat_le b t.stime ≡ x → not_below c (cond x (t ∷ not_below b ts) (not_below b ts)) ≡ not_below c (t ∷ ts)) [
      | true ↦ λ e. ap (λ us. cond (nat_le c t.stime) (t ∷ us) us) (late-again b c ts low)
      | false ↦ λ e.
          let early : nat_le c t.stime ≡ false = grind (arith, common_steps) in
          rw early (late-again b c ts low)
    ]) refl

pub late-rise : (b c : ℕ) (ts us : List Tuple) → b ≤ c → not_below b ts ≡ not_below b us → not_below c ts ≡ not_below c us
late-rise b c ts us low e = sym (late-again b c ts low) ∙ ap (not_below c) e ∙ late-again b c us low

pub late-push : (b : ℕ) (ts : List Tuple) (t : Tuple) → b ≤ t.stime → not_below b (ts ++ t ∷ []) ≡ not_below b ts ++ t ∷ []
late-push b ts t late =
    let is : nat_le b t.stime ≡ true = le-leb b t.stime late in
    filter-append (λ (u : Tuple). nat_le b u.stime) ts (t ∷ []) ∙ ap (λ c. not_below b ts ++ cond c (t ∷ []) []) is

pub early-push : (b : ℕ) (ts : List Tuple) (t : Tuple) → t.stime < b → not_below b (ts ++ t ∷ []) ≡ not_below b ts
early-push b ts t early =
    let is : nat_le b t.stime ≡ false = grind (arith, common_steps) in
    filter-append (λ (u : Tuple). nat_le b u.stime) ts (t ∷ []) ∙ ap (λ c. not_below b ts ++ cond c (t ∷ []) []) is ∙ append-nil (not_below b ts)

-- the last one of those is the last one of all, where it is one of those
pub last-late : (b n : ℕ) (ts : List Tuple) → last_time ts ≡ Some n → b ≤ n → last_time (not_below b ts) ≡ Some n
last-late b n [] e late = absurd (cc)
last-late b n (t ∷ []) e late =
    let same : t.stime ≡ n = cc in
    let is : nat_le b t.stime ≡ true = le-leb b t.stime (omega (arith, same, late)) in
    rw is (ap Some same)
last-late b n (t ∷ u ∷ ts) e late =
    let rest = last-late b n (u ∷ ts) e late in
    elim (nat_le b t.stime) as (λ x. last_time (cond x (t ∷ not_below b (u ∷ ts)) (not_below b (u ∷ ts))) ≡ Some n) [
      | true ↦ last-cons t (not_below b (u ∷ ts)) n rest
      | false ↦ rest
    ]

pub last-get : (ts : List Tuple) (t : Tuple) → slice_get ts (length ts - 1) ≡ Some t → last_time ts ≡ Some t.stime
last-get [] t e = absurd (cc)
last-get (u ∷ []) t e = let same : u ≡ t = cc in ap (λ (v : Tuple). Some v.stime) same
last-get (u ∷ v ∷ ts) t e =
    let n : length (u ∷ v ∷ ts) - 1 ≡ suc (length (v ∷ ts) - 1) = omega arith in
    last-get (v ∷ ts) t (sym (ap (slice_get (u ∷ v ∷ ts)) n) ∙ e)

-- ---- the last one goes

pub popped-kept : (b : ℕ) (now new : List Tuple) (r : Option Tuple) (n : ℕ) → now ≡ new ++ option_to_list r → last_time now ≡ Some n → n < b → not_below b new ≡ not_below b now
popped-kept b now new None n e last early = ap (not_below b) (sym (e ∙ append-nil new))
popped-kept b now new (Some t) n e last early =
    let time : Some t.stime ≡ Some n = sym (last-behind new t) ∙ ap last_time (sym e) ∙ last in
    let same : t.stime ≡ n = cc in
    sym (ap (not_below b) e ∙ early-push b new t (omega (arith, same, early)))

pub popped-begins : (old now new : List Tuple) (r : Option Tuple) → now ≡ new ++ option_to_list r → now ≡ take (length now) old → new ≡ take (length new) old
popped-begins old now new r e h =
    let k : Begins now old = record { is = h } in
    let front : Begins new now = subst (λ us. Begins new us) (sym e) (begins-append new (option_to_list r)) in
    (begins-through new now old front k).is

-- ---- one more

pub ordered-more : (ts : List Tuple) (t : Tuple) (old new : Bool) → old ≡ true → IsOrderedIf ts old → (new ≡ true → IsUpto t.stime (last_time ts)) → IsOrderedIf (ts ++ t ∷ []) new
ordered-more ts t old new e h k = record { holds = λ is. ordered-push ts t (h.holds e) (k is) }
