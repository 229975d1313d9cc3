-- The places for buckets' stamps, step by step.
use Rattle.std.proofs.Common.{◌≡◌, ℕ, zero, suc, ◌+◌, ◌-◌, ◌*◌, ◌/◌, ◌<◌, ◌≤◌, Bool, true, false, nat_le, ◌&&◌, List, [], ◌∷◌, ◌++◌, take, drop, length, refl, sym, ap, ◌∙◌, arith, Option, Some, None, slice_index_or, get_or}
use Rattle.std.proofs.lemmas.List.{take_more}
use Rattle.std.proofs.lemmas.Nat.{le-div}
use Rattle.std.proofs.Math.Nat.{div-mul-le_self, div-eq_of_lt-le}
use Rattle.std.proofs.lemmas.List.Elements.{All-append, All-weaker}
use Rattle.std.proofs.lemmas.Grind.{common_steps}
use Rattle.std.specs.List.{All}
use Rattle.std.specs.Prelude.{is_some, nat_lt, if◌then◌else◌}
use Rattle.dpc_lists.specs.Lists.{nth, changed, last_below}
use Rattle.dpc_model.specs.Due.{Stamps, waited_long}
use Rattle.dpc_model.specs.Reading.{tuples_in}
use Rattle.dpc_model.specs.declared.tuples.Tuple.{Tuple}
use Rattle.dpc_model.specs.declared.tuples.Item.{Item}
use Rattle.dpc_model.specs.declared.tuples.Item.TheVariants.{Stable, Tentative, Passed, Boundary, Undo, RecDone}
use Rattle.sunion.specs.Clocks.{stamps_from, first_stamp, stamped_at, stamped, LiesFrom, HasStamped}

-- a place from this one on waited too long
abbrev pub is_waiting : List (Option ℕ) → ℕ → ℕ → ℕ → ℕ → Bool
is_waiting clocks from delay now place = nat_le from place && waited_long (nth None clocks place) delay now

-- a place more that says nothing
pub stamps_from-push : (k : ℕ) (clocks : List (Option ℕ)) → stamps_from k (clocks ++ None ∷ []) ≡ stamps_from k clocks
stamps_from-push k [] = refl
stamps_from-push k (None ∷ clocks) = stamps_from-push (k + 1) clocks
stamps_from-push k (Some at ∷ clocks) = ap (λ (ss : Stamps). (k, at) ∷ ss) (stamps_from-push (k + 1) clocks)

-- ---- a change that changes nothing

pub changed-past : {X : Type 0} (i : ℕ) (f : X → X) (xs : List X) → length xs ≤ i → changed i f xs ≡ xs
changed-past i f [] h = refl
changed-past zero f (x ∷ xs) h = absurd (omega (arith, h))
changed-past {X = X} (suc i) f (x ∷ xs) h = ap (λ (ys : List X). x ∷ ys) (changed-past i f xs (omega (arith, h)))

pub changed-fixed : {X : Type 0} (i : ℕ) (f : X → X) (xs : List X) (x : X) → x ≡ slice_index_or xs i x → f x ≡ x → changed i f xs ≡ xs
changed-fixed i f [] x e k = refl
changed-fixed {X = X} zero f (y ∷ xs) x e k = ap (λ (z : X). z ∷ xs) (ap f (sym e) ∙ k ∙ e)
changed-fixed {X = X} (suc i) f (y ∷ xs) x e k = ap (λ (ys : List X). y ∷ ys) (changed-fixed i f xs x e k)

pub no_stamp : (now : ℕ) (stamp : Option ℕ) → is_some stamp ≡ false → first_stamp now None ≡ first_stamp now stamp
no_stamp now None e = refl
no_stamp now (Some at) e = absurd (cc)

pub stamp-kept : (now : ℕ) (stamp : Option ℕ) → is_some stamp ≡ true → first_stamp now stamp ≡ stamp
stamp-kept now None e = absurd (cc)
stamp-kept now (Some at) e = refl

-- no place before the first one is asked for
pub none-waiting : (clocks : List (Option ℕ)) (from delay now n : ℕ) → n ≤ from → last_below (is_waiting clocks from delay now) n ≡ None
none-waiting clocks from delay now zero h = refl
none-waiting clocks from delay now (suc n) h =
    let early : nat_le from n ≡ false = grind (arith, common_steps, h) in
    rw early (none-waiting clocks from delay now n (omega (arith, h)))

-- ---- the tuples of items, one item more

tuples_in-append : (items more : List Item) → tuples_in (items ++ more) ≡ tuples_in items ++ tuples_in more
tuples_in-append [] more = refl
tuples_in-append (Stable k t ∷ items) more = ap (λ (ts : List Tuple). t ∷ ts) (tuples_in-append items more)
tuples_in-append (Tentative t ∷ items) more = ap (λ (ts : List Tuple). t ∷ ts) (tuples_in-append items more)
tuples_in-append (Passed b ∷ items) more = tuples_in-append items more
tuples_in-append (Boundary b m ∷ items) more = tuples_in-append items more
tuples_in-append (Undo n ∷ items) more = tuples_in-append items more
tuples_in-append (RecDone ∷ items) more = tuples_in-append items more

pub latest-more : (i : ℕ) (items : List Item) (item : Item) (old here new : ℕ) → i < length items → item ≡ slice_index_or items i item →
    All (λ (t : Tuple). t.stime ≤ old) (tuples_in (take i items)) → All (λ (t : Tuple). t.stime ≤ here) (tuples_in (item ∷ [])) →
    old ≤ new → here ≤ new → All (λ (t : Tuple). t.stime ≤ new) (tuples_in (take (i + 1) items))
latest-more i items item old here new low e far one more up =
    let taken : take (i + 1) items ≡ take i items ++ item ∷ [] = take_more items i item low ∙ ap (λ (x : Item). take i items ++ x ∷ []) (sym e) in
    rw (taken, tuples_in-append (take i items) (item ∷ []))
    (All-append (λ (t : Tuple). t.stime ≤ new) (tuples_in (take i items)) (tuples_in (item ∷ []))
    (All-weaker (λ (t : Tuple). t.stime ≤ old) (λ (t : Tuple). t.stime ≤ new) (λ t h. omega (arith, h, more)) (tuples_in (take i items)) far)
    (All-weaker (λ (t : Tuple). t.stime ≤ here) (λ (t : Tuple). t.stime ≤ new) (λ t h. omega (arith, h, up)) (tuples_in (item ∷ [])) one))

-- an earlier time lies in no later bucket
div-up : (width a b : ℕ) → 0 < width → a ≤ b → a / width ≤ b / width
div-up width a b w low = le-div (a / width) b width w (omega (arith, div-mul-le_self a width, low))

pub farthest-of : (width cursor latest far : ℕ) (items : List Item) → 0 < width → latest / width - cursor ≤ far →
    All (λ (t : Tuple). t.stime ≤ latest) (tuples_in items) → All (λ (t : Tuple). t.stime / width - cursor ≤ far) (tuples_in items)
farthest-of width cursor latest far items w up h =
    All-weaker (λ (t : Tuple). t.stime ≤ latest) (λ (t : Tuple). t.stime / width - cursor ≤ far) (λ t low. omega (arith, up, div-up width t.stime latest w low)) (tuples_in items) h

-- ---- lists from a place on

pub drop-at : {X : Type 0} (i : ℕ) (xs : List X) (x : X) → i < length xs → x ≡ slice_index_or xs i x → drop i xs ≡ x ∷ drop (i + 1) xs
drop-at i [] x low e = absurd (omega (arith, low))
drop-at {X = X} zero (y ∷ xs) x low e = ap (λ (z : X). z ∷ xs) (sym e)
drop-at (suc i) (y ∷ xs) x low e = let next : suc i + 1 ≡ suc (i + 1) = omega arith in rw next (drop-at i xs x (omega (arith, low)) e)

-- ---- times, one after another

pub get-own : {X : Type 0} (xs : List X) (i : ℕ) (d : X) → i < length xs → get_or xs i d ≡ slice_index_or xs i (get_or xs i d)
get-own [] i d low = absurd (omega (arith, low))
get-own (x ∷ xs) zero d low = refl
get-own (x ∷ xs) (suc i) d low = get-own xs i d (omega (arith, low))

pub stamped-next : (width cursor now i time : ℕ) (clocks : List (Option ℕ)) (times : List ℕ) → i < length times → time ≡ slice_index_or times i time →
    stamped width cursor now clocks (drop i times) ≡ stamped width cursor now (stamped_at cursor now clocks (time / width)) (drop (i + 1) times)
stamped-next width cursor now i time clocks times low e = ap (λ (ts : List ℕ). stamped width cursor now clocks ts) (drop-at i times time low e)

changed-twice : {X : Type 0} (i : ℕ) (f : X → X) (xs : List X) → ((x : X) → f (f x) ≡ f x) → changed i f (changed i f xs) ≡ changed i f xs
changed-twice i f [] h = refl
changed-twice {X = X} zero f (x ∷ xs) h = ap (λ (y : X). y ∷ xs) (h x)
changed-twice {X = X} (suc i) f (x ∷ xs) h = ap (λ (ys : List X). x ∷ ys) (changed-twice i f xs h)

stamp-twice : (now : ℕ) (stamp : Option ℕ) → first_stamp now (first_stamp now stamp) ≡ first_stamp now stamp
stamp-twice now None = refl
stamp-twice now (Some at) = refl

-- a bucket that has its stamp
pub stamped-again : (cursor now bucket : ℕ) (clocks : List (Option ℕ)) → stamped_at cursor now (stamped_at cursor now clocks bucket) bucket ≡ stamped_at cursor now clocks bucket
stamped-again cursor now bucket clocks =
    let f = first_stamp now in
    elim (nat_lt bucket cursor) as (λ (b : Bool). (if b then (if b then clocks else changed (bucket - cursor) f clocks) else changed (bucket - cursor) f (if b then clocks else changed (bucket - cursor) f clocks))
    ≡ (if b then clocks else changed (bucket - cursor) f clocks)) [
      | true ↦ refl
      | false ↦ changed-twice (bucket - cursor) f clocks (stamp-twice now)
    ]

-- a time of the bucket that was stamped last
pub stamped-within : (width cursor now time : ℕ) (begin : Option ℕ) (clocks : List (Option ℕ)) → LiesFrom begin width time → HasStamped width cursor now clocks begin →
    stamped_at cursor now clocks (time / width) ≡ clocks
stamped-within width cursor now time None clocks h s = absurd h
stamped-within width cursor now time (Some begin) clocks h s =
    let bucket = s.0 in
    let from : bucket * width ≤ time = omega (arith, h.0, s.1) in
    let more : (bucket + 1) * width ≡ bucket * width + width = omega arith in
    let below : time < (bucket + 1) * width = omega (arith, h.1, s.1, more) in
    let same : time / width ≡ bucket = div-eq_of_lt-le width from below in
    ap (λ (b : ℕ). stamped_at cursor now clocks b) same ∙ s.2
