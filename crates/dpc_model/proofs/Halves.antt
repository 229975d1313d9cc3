-- A search by halves in a list in order of time.
use Rattle.std.proofs.Common.{◌≡◌, ℕ, zero, suc, ◌≤◌, ◌<◌, true, false, List, [], ◌∷◌, length, refl, arith, slice_index_or, nat_lt}
use Rattle.std.proofs.lemmas.Bool.{ltb-true, ltb-false}
use Rattle.std.specs.List.Sorted.{IsNonDecreasingBy, IsPartitionPoint}
use Rattle.dpc_model.specs.Streams.{NoneBelow, IsOrdered, InOrder, time_of, count_below}
use Rattle.dpc_model.specs.declared.tuples.Tuple.{Tuple}
use Rattle.dpc_model.proofs.Cuts.{count-more, count-end}
use Rattle.dpc_model.proofs.Prefixes.{length-filter_le}

-- an ordered list does not fall
late : {X : Type 0} (key : X → ℕ) (n i : ℕ) (xs : List X) (d : X) → NoneBelow key n xs → i < length xs → n ≤ key (slice_index_or xs i d)
late key n i [] d s h = absurd (omega (arith, h))
late key n zero (x ∷ xs) d s h = s.0
late key n (suc i) (x ∷ xs) d s h = late key n i xs d s.1 (omega (arith, h))

pub rises : {X : Type 0} (key : X → ℕ) (xs : List X) → IsOrdered key xs → IsNonDecreasingBy key xs
rises key [] o i j d up low = absurd (omega (arith, low))
rises key (x ∷ xs) o zero zero d up low = omega arith
rises key (x ∷ xs) o zero (suc j) d up low = late key (key x) j xs d o.0 (omega (arith, low))
rises key (x ∷ xs) o (suc i) zero d up low = absurd (omega (arith, up))
rises key (x ∷ xs) o (suc i) (suc j) d up low = rises key xs o.1 i j d (omega (arith, up)) (omega (arith, low))

at-least : (b i : ℕ) (xs : List Tuple) (d : Tuple) → InOrder xs → i ≤ length xs → ((k : ℕ) → k < i → nat_lt (slice_index_or xs k d).stime b ≡ true) → i ≤ count_below xs b
at-least b zero xs d o low h = omega arith
at-least b (suc k) xs d o low h =
    let more = count-more time_of xs k b d o (omega (arith, low)) (ltb-true (slice_index_or xs k d).stime b (h k (omega arith))) in omega (arith, more)

at-most : (b i : ℕ) (xs : List Tuple) (d : Tuple) → InOrder xs → (i < length xs → nat_lt (slice_index_or xs i d).stime b ≡ false) → count_below xs b ≤ i
at-most b i xs d o h =
    let all : count_below xs b ≤ length xs = length-filter_le (λ (t : Tuple). nat_lt t.stime b) xs in
    (elim (nat_lt i (length xs)) as (λ c. nat_lt i (length xs) ≡ c → count_below xs b ≤ i) [
      | true ↦ λ e. let here = ltb-true i (length xs) e in count-end time_of xs i b d o here (ltb-false (slice_index_or xs i d).stime b (h here))
      | false ↦ λ e. let past = ltb-false i (length xs) e in omega (arith, past, all)
    ]) refl

-- the place behind all tuples below a time is their number
pub count-at : (b i : ℕ) (xs : List Tuple) → InOrder xs → i ≤ length xs → IsPartitionPoint (λ (y : Tuple). nat_lt y.stime b ≡ true) (λ (y : Tuple). nat_lt y.stime b ≡ false) xs i → i ≡ count_below xs b
count-at b i [] o low p = omega (arith, low)
count-at b i (x ∷ xs) o low p =
    let least = at-least b i (x ∷ xs) x o low (λ k h. p.0 k x (omega arith) h) in
    let most = at-most b i (x ∷ xs) x o (λ h. p.1 i x (omega arith) h) in omega (arith, least, most)
