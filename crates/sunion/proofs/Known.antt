-- What is kept of the inputs tells of all of them which buckets are complete, reached and overdue, and what the next ones hold.
use Rattle.std.proofs.Common.{◌≡◌, ℕ, zero, suc, ◌+◌, ◌-◌, ◌*◌, ◌/◌, ◌<◌, ◌≤◌, Bool, true, false, nat_lt, nat_le, ◌&&◌, ◌||◌, not, min, max, mul-le-mul_right, List, [], ◌∷◌, ◌++◌, map, length, refl, sym, ap, ◌∙◌, arith, Option, Some, None, slice_index_or}
use Rattle.std.proofs.lemmas.Grind.{common_steps}
use Rattle.std.proofs.lemmas.Bool.{lt-ltb}
use Rattle.std.proofs.lemmas.List.Elements.{All-head, All-tail, filter-append}
use Rattle.std.specs.List.{All, AllZip}
use Rattle.dpc_lists.specs.Lists.{least, list_all, is_nil, last_below}
use Rattle.dpc_model.specs.Streams.{InOrder, is_below}
use Rattle.dpc_model.specs.Reading.{Reader}
use Rattle.dpc_model.specs.Operators.{between}
use Rattle.dpc_model.specs.Fragments.{serial}
use Rattle.dpc_model.specs.Inlets.{InletState}
use Rattle.dpc_model.specs.Due.{reach, stamp_of, waited_long, is_reached}
use Rattle.dpc_model.specs.Parts.{Inputs, frontier_of, bucket_at, AreInOrder}
use Rattle.dpc_model.specs.PartStands.{InletValue, StandsForInlet}
use Rattle.dpc_model.specs.declared.tuples.Tuple.{Tuple}
use Rattle.dpc_lists.proofs.Truths.{or-none}
use Rattle.dpc_lists.proofs.Places.{last-same}
use Rattle.inlet.proofs.Dropping.{kept-InOrder}
use Rattle.inlet.proofs.Standing.{lacks-some}
use Rattle.sunion.specs.Values.{SUnionValue}
use Rattle.sunion.specs.Ports.{least_over, complete_at, bucket_of, KeptInOrder, passing_inputs}
use Rattle.sunion.specs.Unions.{StandsForInputs, complete_upto_in, bucket_in, due_inputs_of, last_due_in, later_of}

abbrev known : Reader → Reader
known r = record r { stable = [] }

-- ---- what does not hang on what is forgotten

same-known : (b : ℕ) (v : InletValue) (x : InletState) → StandsForInlet b v x → known x.held ≡ known v.state.held
same-known b v x h = sym (ap (λ (y : InletState). known y.held) h.rest)

pub all-same : (b : ℕ) (p : Reader → Bool) → ((r : Reader) → p (known r) ≡ p r) → (vs : List InletValue) (xs : List InletState) → AllZip (StandsForInlet b) vs xs →
    list_all p (map (λ (i : InletState). i.held) xs) ≡ list_all p (map (λ (v : InletValue). v.state.held) vs)
all-same b p e [] [] z = refl
all-same b p e [] (x ∷ xs) z = absurd z
all-same b p e (v ∷ vs) [] z = absurd z
all-same b p e (v ∷ vs) (x ∷ xs) z =
    let first : p x.held ≡ p v.state.held = sym (e x.held) ∙ ap p (same-known b v x z.0) ∙ e v.state.held in
    rw (first, all-same b p e vs xs z.1) refl

bounds-same : (b width : ℕ) (vs : List InletValue) (xs : List InletState) → AllZip (StandsForInlet b) vs xs →
    map (λ (r : Reader). r.bound / width) (map (λ (i : InletState). i.held) xs) ≡ map (complete_at width) vs
bounds-same b width [] [] z = refl
bounds-same b width [] (x ∷ xs) z = absurd z
bounds-same b width (v ∷ vs) [] z = absurd z
bounds-same b width (v ∷ vs) (x ∷ xs) z =
    let first : x.held.bound ≡ v.state.held.bound = ap (λ (r : Reader). r.bound) (same-known b v x z.0) in
    rw (first, bounds-same b width vs xs z.1) refl

-- ---- complete buckets

least-over : (f : InletValue → ℕ) (most : ℕ) (p : InletValue) (ps : List InletValue) → min most (least 0 (map f (p ∷ ps))) ≡ least_over f most (p ∷ ps)
least-over f most p [] = omega arith
least-over f most p (q ∷ ps) = let rest = least-over f most q ps in omega (arith, rest)

least-first : (f : InletValue → ℕ) (p : InletValue) (ps : List InletValue) → least 0 (map f (p ∷ ps)) ≡ least_over f (f p) (p ∷ ps)
least-first f p [] = omega arith
least-first f p (q ∷ ps) = let rest = least-over f (f p) q ps in omega (arith, rest)

pub none-complete : (v : SUnionValue) (x : Inputs) → StandsForInputs v x → v.union.inlets ≡ [] → 0 ≡ complete_upto_in v.width x - x.cursor
none-complete v x h e =
    let none : complete_upto_in v.width x ≡ 0 = ap (λ (ns : List ℕ). least 0 ns) (bounds-same (x.cursor * v.width) v.width v.union.inlets x.inlets h.inlets ∙ ap (λ (is : List InletValue). map (complete_at v.width) is) e) in
    omega (arith, none)

complete-is : (v : SUnionValue) (x : Inputs) (p : InletValue) (ps : List InletValue) → StandsForInputs v x → v.union.inlets ≡ p ∷ ps →
    complete_upto_in v.width x ≡ least_over (complete_at v.width) (complete_at v.width p) v.union.inlets
complete-is v x p ps h e =
    ap (λ (ns : List ℕ). least 0 ns) (bounds-same (x.cursor * v.width) v.width v.union.inlets x.inlets h.inlets ∙ ap (λ (is : List InletValue). map (complete_at v.width) is) e)
    ∙ least-first (complete_at v.width) p ps ∙ sym (ap (λ (is : List InletValue). least_over (complete_at v.width) (complete_at v.width p) is) e)

pub complete-first : (v : SUnionValue) (x : Inputs) (p : InletValue) → StandsForInputs v x → 0 < length v.union.inlets → p ≡ slice_index_or v.union.inlets 0 p →
    complete_upto_in v.width x ≡ least_over (complete_at v.width) (complete_at v.width p) v.union.inlets
complete-first v x p h some e = by-parts v.union.inlets refl some e
  where
    by-parts : (is : List InletValue) → v.union.inlets ≡ is → 0 < length is → p ≡ slice_index_or is 0 p →
        complete_upto_in v.width x ≡ least_over (complete_at v.width) (complete_at v.width p) v.union.inlets
    by-parts [] k some e = absurd (omega (arith, some))
    by-parts (q ∷ qs) k some e = complete-is v x p qs h (k ∙ ap (λ (i : InletValue). i ∷ qs) (sym e))

-- ---- overdue and reached buckets

pub last-within : (p : ℕ → Bool) (n k : ℕ) → last_below p n ≡ Some k → k < n
last-within p zero k e = absurd (cc)
last-within p (suc n) k e =
    (elim (p n) as (λ b. p n ≡ b → k < suc n) [
      | true ↦ λ t. let found : last_below p (suc n) ≡ Some n = rw t refl in let same : n ≡ k = cc in omega (arith, same)
      | false ↦ λ t. let found : last_below p (suc n) ≡ last_below p n = rw t refl in let less = last-within p n k (sym found ∙ e) in omega (arith, less)
    ]) refl

last-or : (p q : ℕ → Bool) (n : ℕ) → last_below (λ k. p k || q k) n ≡ later_of (last_below p n) (last_below q n)
last-or p q zero = refl
last-or p q (suc n) =
    (elim (p n) as (λ b. p n ≡ b → last_below (λ k. p k || q k) (suc n) ≡ later_of (last_below p (suc n)) (last_below q (suc n))) [
      | true ↦ λ e.
          (elim (q n) as (λ b. q n ≡ b → last_below (λ k. p k || q k) (suc n) ≡ later_of (last_below p (suc n)) (last_below q (suc n))) [
            | true ↦ λ f. let twice : n ≡ max n n = omega arith in rw (e, f) (ap Some twice)
            | false ↦ λ f. rw (e, f) (first n (last_below q n) (last-within q n))
          ]) refl
      | false ↦ λ e.
          (elim (q n) as (λ b. q n ≡ b → last_below (λ k. p k || q k) (suc n) ≡ later_of (last_below p (suc n)) (last_below q (suc n))) [
            | true ↦ λ f. rw (e, f) (second n (last_below p n) (last-within p n))
            | false ↦ λ f. rw (e, f) (last-or p q n)
          ]) refl
    ]) refl
  where
    first : (m : ℕ) (o : Option ℕ) → ((k : ℕ) → o ≡ Some k → k < m) → Some m ≡ later_of (Some m) o
    first m None h = refl
    first m (Some k) h = ap Some (let low = h k refl in omega (arith, low))

    second : (m : ℕ) (o : Option ℕ) → ((k : ℕ) → o ≡ Some k → k < m) → Some m ≡ later_of o (Some m)
    second m None h = refl
    second m (Some k) h = ap Some (let low = h k refl in omega (arith, low))

-- the last one that waited too long, by what is kept
abbrev pub overdue_in : SUnionValue → ℕ → Option ℕ
overdue_in v now = last_below (λ k. nat_le (v.union.cursor + v.union.closed) k && waited_long (stamp_of v.union.stamps k) v.delay now) v.buckets

abbrev pub passed_in : SUnionValue → Option ℕ
passed_in v = last_below (is_reached (passing_inputs v.width v.union.inlets (v.union.cursor + v.union.closed) (nat_lt 0 v.union.closed))) v.buckets

view-same : (v : SUnionValue) (x : Inputs) → StandsForInputs v x → frontier_of x ≡ v.union.cursor + v.union.closed
view-same v x h = let cursor = h.cursor in let closed = h.closed in omega (arith, cursor, closed)

overdue-test : (v : SUnionValue) (x : Inputs) (now k : ℕ) → StandsForInputs v x →
    (nat_le (frontier_of x) k && waited_long (stamp_of x.stamps k) v.delay now) ≡ (nat_le (v.union.cursor + v.union.closed) k && waited_long (stamp_of v.union.stamps k) v.delay now)
overdue-test v x now k h = rw (view-same v x h, h.stamps k) refl

pub overdue-is : (v : SUnionValue) (x : Inputs) (now : ℕ) → StandsForInputs v x → last_due_in v false now x ≡ overdue_in v now
overdue-is v x now h = last-same _ _ v.buckets (λ k. or-none _ ∙ overdue-test v x now k h)

reached-test : (v : SUnionValue) (x : Inputs) (k : ℕ) → StandsForInputs v x →
    is_reached (due_inputs_of v true x) k ≡ is_reached (passing_inputs v.width v.union.inlets (v.union.cursor + v.union.closed) (nat_lt 0 v.union.closed)) k
reached-test v x k h =
    let upto = (k + 1) * v.width in
    let b = x.cursor * v.width in
    let reaches = all-same b (λ (r : Reader). nat_le upto (reach r)) (λ r. refl) v.union.inlets x.inlets h.inlets in
    let bounds = all-same b (λ (r : Reader). nat_le upto r.bound) (λ r. refl) v.union.inlets x.inlets h.inlets in
    rw (view-same v x h, reaches, bounds, any x.closed, h.closed) refl
  where
    any : {X : Type 0} (xs : List X) → not (is_nil xs) ≡ nat_lt 0 (length xs)
    any [] = refl
    any (x ∷ xs) = sym (lt-ltb 0 (length (x ∷ xs)) (omega arith))

pub due-is : (v : SUnionValue) (x : Inputs) (now : ℕ) → StandsForInputs v x → last_due_in v true now x ≡ later_of (overdue_in v now) (passed_in v)
due-is v x now h =
    last-same _ (λ k. (nat_le (v.union.cursor + v.union.closed) k && waited_long (stamp_of v.union.stamps k) v.delay now)
    || is_reached (passing_inputs v.width v.union.inlets (v.union.cursor + v.union.closed) (nat_lt 0 v.union.closed)) k) v.buckets (λ k. rw (overdue-test v x now k h, reached-test v x k h) refl)
    ∙ last-or (λ k. nat_le (v.union.cursor + v.union.closed) k && waited_long (stamp_of v.union.stamps k) v.delay now)
    (is_reached (passing_inputs v.width v.union.inlets (v.union.cursor + v.union.closed) (nat_lt 0 v.union.closed))) v.buckets

-- ---- what a bucket holds

between-append : (from upto : ℕ) (ts us : List Tuple) → between from upto (ts ++ us) ≡ between from upto ts ++ between from upto us
between-append from upto ts us = filter-append (λ (t : Tuple). nat_le from t.stime && is_below upto t) ts us

none-between : (b from upto : ℕ) (ts : List Tuple) → b ≤ from → All (λ (t : Tuple). t.stime < b) ts → between from upto ts ≡ []
none-between b from upto [] later low = refl
none-between b from upto (t ∷ ts) later low =
    let first = All-head (λ (u : Tuple). u.stime < b) t ts low in
    let rest = none-between b from upto ts later (All-tail (λ (u : Tuple). u.stime < b) t ts low) in
    grind (arith, common_steps, first, rest, later)

bucket-at : (b width k : ℕ) (v : InletValue) (x : InletState) → b ≤ k * width → StandsForInlet b v x → bucket_at width k x.held ≡ bucket_at width k v.state.held
bucket-at b width k v x low h =
    let from = k * width in
    let upto = (k + 1) * width in
    let gone = lacks-some b v x h in
    let tentative : x.held.tentative ≡ v.state.held.tentative = ap (λ (r : Reader). r.tentative) (same-known b v x h) in
    ap (λ (ts : List Tuple). between from upto (x.held.stable ++ ts)) tentative
    ∙ ap (λ (ts : List Tuple). between from upto (ts ++ v.state.held.tentative)) gone.1.keeps.kept
    ∙ between-append from upto (gone.0 ++ v.state.held.stable) v.state.held.tentative
    ∙ ap (λ (ts : List Tuple). ts ++ between from upto v.state.held.tentative)
    (between-append from upto gone.0 v.state.held.stable ∙ ap (λ (ts : List Tuple). ts ++ between from upto v.state.held.stable) (none-between b from upto gone.0 low gone.1.below))
    ∙ sym (between-append from upto v.state.held.stable v.state.held.tentative)

buckets-same : (b width k : ℕ) (vs : List InletValue) (xs : List InletState) → b ≤ k * width → AllZip (StandsForInlet b) vs xs →
    bucket_of width k vs ≡ map (bucket_at width k) (map (λ (i : InletState). i.held) xs)
buckets-same b width k [] [] low z = refl
buckets-same b width k [] (x ∷ xs) low z = absurd z
buckets-same b width k (v ∷ vs) [] low z = absurd z
buckets-same b width k (v ∷ vs) (x ∷ xs) low z = rw (bucket-at b width k v x low z.0, buckets-same b width k vs xs low z.1) refl

kept-in-order : (b : ℕ) (vs : List InletValue) (xs : List InletState) → AllZip (StandsForInlet b) vs xs → All (λ (i : InletState). InOrder i.held.stable) xs → KeptInOrder vs
kept-in-order b [] [] z o = tt
kept-in-order b [] (x ∷ xs) z o = absurd z
kept-in-order b (v ∷ vs) [] z o = absurd z
kept-in-order b (v ∷ vs) (x ∷ xs) z o = (
  kept-InOrder b v x (All-head (λ (i : InletState). InOrder i.held.stable) x xs o) z.0,
  kept-in-order b vs xs z.1 (All-tail (λ (i : InletState). InOrder i.held.stable) x xs o),
)

pub bucket-is : (v : SUnionValue) (x : Inputs) (k : ℕ) → v.union.cursor ≤ k → StandsForInputs v x → AreInOrder x →
    KeptInOrder v.union.inlets × (serial (bucket_of v.width k v.union.inlets) ≡ bucket_in v.width x k)
bucket-is v x k low h o =
    let b = x.cursor * v.width in
    let later : b ≤ k * v.width = let same = h.cursor in mul-le-mul_right v.width (omega (arith, same, low)) in
    (kept-in-order b v.union.inlets x.inlets h.inlets o, ap serial (buckets-same b v.width k v.union.inlets x.inlets later h.inlets))
