-- The mills of the first fragments over one bucket more, and what these gave.
use Rattle.std.proofs.Common.{◌≡◌, ◌⊎◌, inl, inr, ℕ, zero, suc, ◌+◌, ◌*◌, ◌<◌, ◌≤◌, true, false, nat_lt, List, [], ◌∷◌, ◌++◌, length, map, ◌==◌, get_or, slice_set, refl, sym, ap, subst, ◌∙◌, arith, Some}
use Rattle.std.specs.Prelude.{if◌then◌else◌, slice_get}
use Rattle.std.proofs.lemmas.Bool.{lt-ltb, le-ltb, ltb-true, ltb-false}
use Rattle.std.proofs.lemmas.Option.{slice_get_within}
use Rattle.std.proofs.lemmas.Grind.{common_steps}
use Rattle.std.proofs.lemmas.List.{map-append, length-map}
use Rattle.dpc_lists.specs.Lists.{nth, range_with_len}
use Rattle.dpc_lists.proofs.Elements.{range-more, nth-past}
use Rattle.dpc_model.specs.Fragments.{ReadsBelow}
use Rattle.dpc_model.specs.Engines.{from_time}
use Rattle.dpc_model.specs.Streams.{cut}
use Rattle.dpc_model.specs.declared.tuples.Tuple.{Tuple}
use Rattle.dpc_model.specs.declared.plans.Plan.{Plan}
use Rattle.dpc_model.specs.declared.plans.StreamRef.{StreamRef}
use Rattle.dpc_model.specs.declared.plans.StreamRef.TheVariants.{Source, Frag}
use Rattle.fragment_mill.specs.Mills.{MillState}
use Rattle.ideal_run.specs.Buckets.{bucket_of, buckets_before, IsMillOf, AreMills}
use Rattle.ideal_run.proofs.Streams.{ideal-none}

-- ---- what the first fragments gave

range-nth : (a n i : ℕ) → i < n → nth 0 (range_with_len a n) i ≡ a + i
range-nth a zero i low = absurd (omega (arith, low))
range-nth a (suc n) zero low = omega arith
range-nth a (suc n) (suc i) low = let rest = range-nth (a + 1) n i (omega (arith, low)) in omega (arith, rest)

nth-mapped : {X Y : Type 0} (f : X → Y) (d : X) (e : Y) (xs : List X) (i : ℕ) → i < length xs → nth e (map f xs) i ≡ f (nth d xs i)
nth-mapped f d e [] i low = absurd (omega (arith, low))
nth-mapped f d e (x ∷ xs) zero low = refl
nth-mapped f d e (x ∷ xs) (suc i) low = nth-mapped f d e xs i (omega (arith, low))

length-range : (a n : ℕ) → length (range_with_len a n) ≡ n
length-range a zero = refl
length-range a (suc n) = let rest = length-range (a + 1) n in omega (arith, rest)

pub length-buckets : (plan : Plan) (k frag : ℕ) → length (buckets_before plan k frag) ≡ frag
length-buckets plan k frag = length-map (range_with_len 0 frag) (λ f. bucket_of plan k (Frag f)) ∙ length-range 0 frag

-- the bucket of a fragment that is one of them, or that is not there
given-bucket : (plan : Plan) (k : ℕ) (outputs : List (List Tuple)) (f : ℕ) → outputs ≡ buckets_before plan k (length outputs) → f < length outputs → nth [] outputs f ≡ bucket_of plan k (Frag f)
given-bucket plan k outputs f are low =
    let long = length-range 0 (length outputs) in
    let none : 0 + f ≡ f = omega arith in
    let at : nth 0 (range_with_len 0 (length outputs)) f ≡ f = rw none at (range-nth 0 (length outputs) f low) in
    ap (λ (tss : List (List Tuple)). nth [] tss f) are
    ∙ nth-mapped (λ g. bucket_of plan k (Frag g)) 0 [] (range_with_len 0 (length outputs)) f (omega (arith, long, low))
    ∙ ap (λ g. bucket_of plan k (Frag g)) at

pub numbered-bucket : (plan : Plan) (k : ℕ) (outputs : List (List Tuple)) (f : ℕ) → outputs ≡ buckets_before plan k (length outputs) → (f < length outputs) ⊎ (length plan.frags ≤ f) →
    nth [] outputs f ≡ bucket_of plan k (Frag f)
numbered-bucket plan k outputs f are (inl low) = given-bucket plan k outputs f are low
numbered-bucket plan k outputs f are (inr past) =
    (elim (nat_lt f (length outputs)) as (λ b. nat_lt f (length outputs) ≡ b → nth [] outputs f ≡ bucket_of plan k (Frag f)) [
      | true ↦ λ e. given-bucket plan k outputs f are (ltb-true f (length outputs) e)
      | false ↦ λ e.
          nth-past [] outputs f (ltb-false f (length outputs) e)
          ∙ sym (ap (λ (ts : List Tuple). cut (from_time (k * plan.width) ts) ((k + 1) * plan.width)) (ideal-none plan f past))
    ]) refl

-- one more
pub buckets-more : (plan : Plan) (k frag : ℕ) (outputs : List (List Tuple)) (output : List Tuple) → outputs ≡ buckets_before plan k frag → output ≡ bucket_of plan k (Frag frag) →
    outputs ++ output ∷ [] ≡ buckets_before plan k (frag + 1)
buckets-more plan k frag outputs output are is =
    let f : ℕ → List Tuple = λ g. bucket_of plan k (Frag g) in
    let none : 0 + frag ≡ frag = omega arith in
    ap (λ (tss : List (List Tuple)). tss ++ output ∷ []) are ∙ ap (λ (ts : List Tuple). buckets_before plan k frag ++ ts ∷ []) is
    ∙ sym (map-append f (range_with_len 0 frag) (frag ∷ [])) ∙ ap (map f) (sym (rw none at (range-more 0 frag)))

-- a fragment reads those before it
pub reads-there : (plan : Plan) (n : ℕ) (reads : List StreamRef) (i : ℕ) (d : StreamRef) (f : ℕ) → ReadsBelow n reads → i < length reads → get_or reads i d ≡ Frag f → (f < n) ⊎ (length plan.frags ≤ f)
reads-there plan n [] i d f below low e = absurd (omega (arith, low))
reads-there plan n (Source s ∷ reads) zero d f below low e = cc
reads-there plan n (Frag g ∷ reads) zero d f below low e = inl (let same : g ≡ f = cc in subst (λ (h : ℕ). h < n) same below.0)
reads-there plan n (Source s ∷ reads) (suc i) d f below low e = reads-there plan n reads i d f below (omega (arith, low)) e
reads-there plan n (Frag g ∷ reads) (suc i) d f below low e = reads-there plan n reads i d f below.1 (omega (arith, low)) e

-- ---- the mills

-- the first ones have milled bucket k
abbrev pub AreMilledUpto : Plan → ℕ → ℕ → List MillState → Type 0
AreMilledUpto plan k frag ms = (i : ℕ) (m : MillState) → slice_get ms i ≡ Some m → IsMillOf plan (if nat_lt i frag then k + 1 else k) i m

pub upto-none : (plan : Plan) (k : ℕ) (ms : List MillState) → AreMills plan k ms → AreMilledUpto plan k 0 ms
upto-none plan k ms h i m at = let late : nat_lt i 0 ≡ false = le-ltb i 0 (omega arith) in rw late (h i m at)

pub upto-all : (plan : Plan) (k n : ℕ) (ms : List MillState) → length ms ≤ n → AreMilledUpto plan k n ms → AreMills plan (k + 1) ms
upto-all plan k n ms long h i m at =
    let low : i < length ms = slice_get_within ms i m at in
    let early : nat_lt i n ≡ true = lt-ltb i n (omega (arith, low, long)) in rw early at (h i m at)

-- a list with one element in another's place
set-at : {X : Type 0} (xs : List X) (i j : ℕ) (x m : X) → slice_get (slice_set xs i x) j ≡ Some m → ((j ≡ i) × (x ≡ m)) ⊎ (((j == i) ≡ false) × (slice_get xs j ≡ Some m))
set-at [] i j x m e = cc
set-at (y ∷ xs) zero zero x m e = inl (refl, cc)
set-at (y ∷ xs) zero (suc j) x m e = inr (grind (arith, common_steps), e)
set-at (y ∷ xs) (suc i) zero x m e = inr (grind (arith, common_steps), e)
set-at (y ∷ xs) (suc i) (suc j) x m e =
    elim (set-at xs i j x m e) [
      | inl h ↦ inl (ap (λ (n : ℕ). suc n) h.0, h.1)
      | inr h ↦ inr (let other : (suc j == suc i) ≡ (j == i) = grind (arith, common_steps) in other ∙ h.0, h.1)
    ]

pub upto-more : (plan : Plan) (k frag : ℕ) (ms : List MillState) (new : MillState) → AreMilledUpto plan k frag ms → IsMillOf plan (k + 1) frag new →
    AreMilledUpto plan k (frag + 1) (slice_set ms frag new)
upto-more plan k frag ms new h mill i m at =
    elim (set-at ms frag i new m at) [
      | inl here ↦
          let early : nat_lt i (frag + 1) ≡ true = lt-ltb i (frag + 1) (let place = here.0 in omega (arith, place)) in
          rw early (subst (λ (n : ℕ). IsMillOf plan (k + 1) n m) (sym here.0) (subst (λ (n : MillState). IsMillOf plan (k + 1) frag n) here.1 mill))
      | inr there ↦
          let same : nat_lt i (frag + 1) ≡ nat_lt i frag = let other = there.0 in grind (arith, common_steps, other) in
          rw same (h i m there.1)
    ]

-- the one whose turn it is
pub upto-here : (plan : Plan) (k frag : ℕ) (ms : List MillState) (m : MillState) → AreMilledUpto plan k frag ms → slice_get ms frag ≡ Some m → IsMillOf plan k frag m
upto-here plan k frag ms m h at = let late : nat_lt frag frag ≡ false = le-ltb frag frag (omega arith) in rw late at (h frag m at)

-- one mill more before bucket 0
pushed-at : {X : Type 0} (xs : List X) (x m : X) (i : ℕ) → slice_get (xs ++ x ∷ []) i ≡ Some m → (slice_get xs i ≡ Some m) ⊎ ((i ≡ length xs) × (x ≡ m))
pushed-at [] x m zero e = inr (refl, cc)
pushed-at [] x m (suc i) e = cc
pushed-at (y ∷ xs) x m zero e = inl e
pushed-at (y ∷ xs) x m (suc i) e =
    elim (pushed-at xs x m i e) [
      | inl h ↦ inl h
      | inr h ↦ inr (let place = h.0 in omega (arith, place), h.1)
    ]

pub mills-push : (plan : Plan) (ms : List MillState) (m : MillState) → AreMills plan 0 ms → IsMillOf plan 0 (length ms) m → AreMills plan 0 (ms ++ m ∷ [])
mills-push plan ms m h new i x at =
    elim (pushed-at ms m x i at) [
      | inl there ↦ h i x there
      | inr here ↦ subst (λ (n : ℕ). IsMillOf plan 0 n x) (sym here.0) (subst (λ (y : MillState). IsMillOf plan 0 (length ms) y) here.1 new)
    ]
