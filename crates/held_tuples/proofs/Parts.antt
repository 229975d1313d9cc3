-- A run of stable items in a list.
use Rattle.std.proofs.Common.{◌≡◌, ℕ, zero, suc, ◌+◌, ◌-◌, ◌<◌, ◌≤◌, true, false, List, [], ◌∷◌, ◌++◌, take, drop, length, refl, sym, ap, subst, ◌∙◌, arith, slice_index_or, append_assoc, append-nil, length-append}
use Rattle.dpc_lists.specs.Lists.{IsPrefixOf}
use Rattle.std.proofs.Math.Seq.{drop-nil}
use Rattle.std.proofs.lemmas.Bool.{false≢true, true≢false}
use Rattle.std.proofs.lemmas.List.{drop_more, drop_all}
use Rattle.dpc_model.specs.declared.tuples.Tuple.{Tuple}
use Rattle.dpc_model.specs.declared.tuples.Item.{Item}
use Rattle.dpc_model.specs.declared.tuples.Item.TheVariants.{Stable, Tentative, Passed, Boundary, Undo, RecDone}
use Rattle.held_tuples.specs.Runs.{is_stable, stable_in, run_length, joined}
use Rattle.held_tuples.proofs.Joined.{joined-push}

-- a run has as many tuples as items
pub length-run : (n : ℕ) (items : List Item) → n ≤ run_length items → length (stable_in (take n items)) ≡ n
length-run zero items h = refl
length-run (suc n) [] h = absurd (omega (arith, h))
length-run (suc n) (Stable k t ∷ items) h = ap suc (length-run n items (omega (arith, h)))
length-run (suc n) (Tentative t ∷ items) h = absurd (omega (arith, h))
length-run (suc n) (Passed b ∷ items) h = absurd (omega (arith, h))
length-run (suc n) (Boundary b m ∷ items) h = absurd (omega (arith, h))
length-run (suc n) (Undo b ∷ items) h = absurd (omega (arith, h))
length-run (suc n) (RecDone ∷ items) h = absurd (omega (arith, h))

pub long-run : (n from : ℕ) (items : List Item) (now : List Tuple) → n ≤ run_length (drop from items) → stable_in (take n (drop from items)) ≡ now → n ≡ length now
long-run n from items now h view = sym (length-run n (drop from items) h) ∙ ap (λ (ts : List Tuple). length ts) view

-- each of its items is stable
pub stable-at : (n i : ℕ) (items : List Item) (d : Item) → n ≤ run_length items → i < n → is_stable (slice_index_or items i d) ≡ true
stable-at zero i items d h low = absurd (omega (arith, low))
stable-at (suc n) i [] d h low = absurd (omega (arith, h))
stable-at (suc n) zero (Stable k t ∷ items) d h low = refl
stable-at (suc n) (suc i) (Stable k t ∷ items) d h low = stable-at n i items d (omega (arith, h)) (omega (arith, low))
stable-at (suc n) i (Tentative t ∷ items) d h low = absurd (omega (arith, h))
stable-at (suc n) i (Passed b ∷ items) d h low = absurd (omega (arith, h))
stable-at (suc n) i (Boundary b m ∷ items) d h low = absurd (omega (arith, h))
stable-at (suc n) i (Undo b ∷ items) d h low = absurd (omega (arith, h))
stable-at (suc n) i (RecDone ∷ items) d h low = absurd (omega (arith, h))

-- a tuple of the run is that of the item at its place
pub tuple-at : (n i k : ℕ) (items : List Item) (d : Item) (t e : Tuple) → n ≤ run_length items → i < n → slice_index_or items i d ≡ Stable k t → t ≡ slice_index_or (stable_in (take n items)) i e
tuple-at zero i k items d t e h low is = absurd (omega (arith, low))
tuple-at (suc n) i k [] d t e h low is = absurd (omega (arith, h))
tuple-at (suc n) zero k (Stable j u ∷ items) d t e h low is = grind (arith, is)
tuple-at (suc n) (suc i) k (Stable j u ∷ items) d t e h low is = tuple-at n i k items d t e (omega (arith, h)) (omega (arith, low)) is
tuple-at (suc n) i k (Tentative u ∷ items) d t e h low is = absurd (omega (arith, h))
tuple-at (suc n) i k (Passed b ∷ items) d t e h low is = absurd (omega (arith, h))
tuple-at (suc n) i k (Boundary b m ∷ items) d t e h low is = absurd (omega (arith, h))
tuple-at (suc n) i k (Undo b ∷ items) d t e h low is = absurd (omega (arith, h))
tuple-at (suc n) i k (RecDone ∷ items) d t e h low is = absurd (omega (arith, h))

-- ---- what is left of a run without its first items

rest-run : (m n : ℕ) (items : List Item) → m ≤ n → n ≤ run_length items → n - m ≤ run_length (drop m items)
rest-run zero n items low h = omega (arith, h)
rest-run (suc m) zero items low h = absurd (omega (arith, low))
rest-run (suc m) (suc n) [] low h = absurd (omega (arith, h))
rest-run (suc m) (suc n) (Stable k t ∷ items) low h = let rest = rest-run m n items (omega (arith, low)) (omega (arith, h)) in omega (arith, rest)
rest-run (suc m) (suc n) (Tentative t ∷ items) low h = absurd (omega (arith, h))
rest-run (suc m) (suc n) (Passed b ∷ items) low h = absurd (omega (arith, h))
rest-run (suc m) (suc n) (Boundary b j ∷ items) low h = absurd (omega (arith, h))
rest-run (suc m) (suc n) (Undo b ∷ items) low h = absurd (omega (arith, h))
rest-run (suc m) (suc n) (RecDone ∷ items) low h = absurd (omega (arith, h))

rest-tuples : (m n : ℕ) (items : List Item) → m ≤ n → n ≤ run_length items → stable_in (take (n - m) (drop m items)) ≡ drop m (stable_in (take n items))
rest-tuples zero n items low h = let all : n - 0 ≡ n = omega arith in rw all refl
rest-tuples (suc m) zero items low h = absurd (omega (arith, low))
rest-tuples (suc m) (suc n) [] low h = absurd (omega (arith, h))
rest-tuples (suc m) (suc n) (Stable k t ∷ items) low h = let less : suc n - suc m ≡ n - m = omega arith in rw less (rest-tuples m n items (omega (arith, low)) (omega (arith, h)))
rest-tuples (suc m) (suc n) (Tentative t ∷ items) low h = absurd (omega (arith, h))
rest-tuples (suc m) (suc n) (Passed b ∷ items) low h = absurd (omega (arith, h))
rest-tuples (suc m) (suc n) (Boundary b j ∷ items) low h = absurd (omega (arith, h))
rest-tuples (suc m) (suc n) (Undo b ∷ items) low h = absurd (omega (arith, h))
rest-tuples (suc m) (suc n) (RecDone ∷ items) low h = absurd (omega (arith, h))

pub drop-drop : {X : Type 0} (m n : ℕ) (xs : List X) → drop m (drop n xs) ≡ drop (n + m) xs
drop-drop m zero xs = let e : 0 + m ≡ m = omega arith in rw e refl
drop-drop m (suc n) [] = let e : suc n + m ≡ suc (n + m) = omega arith in rw e (drop-nil m)
drop-drop m (suc n) (x ∷ xs) = let e : suc n + m ≡ suc (n + m) = omega arith in rw e (drop-drop m n xs)

pub run-behind : (m n from : ℕ) (items : List Item) → m ≤ n → n ≤ run_length (drop from items) → n - m ≤ run_length (drop (from + m) items)
run-behind m n from items low h = subst (λ (is : List Item). n - m ≤ run_length is) (drop-drop m from items) (rest-run m n (drop from items) low h)

pub tuples-behind : (m n from : ℕ) (items : List Item) → m ≤ n → n ≤ run_length (drop from items) →
    stable_in (take (n - m) (drop (from + m) items)) ≡ drop m (stable_in (take n (drop from items)))
tuples-behind m n from items low h =
    subst (λ (is : List Item). stable_in (take (n - m) is) ≡ drop m (stable_in (take n (drop from items)))) (drop-drop m from items) (rest-tuples m n (drop from items) low h)

-- ---- runs in a list

-- one stable item more, and one that isn't
run-next : (i : Item) (items : List Item) → is_stable i ≡ true → run_length (i ∷ items) ≡ suc (run_length items)
run-next (Stable k t) items e = refl
run-next (Tentative t) items e = absurd (false≢true e)
run-next (Passed b) items e = absurd (false≢true e)
run-next (Boundary b m) items e = absurd (false≢true e)
run-next (Undo n) items e = absurd (false≢true e)
run-next RecDone items e = absurd (false≢true e)

run-ends : (i : Item) (items : List Item) → is_stable i ≡ false → run_length (i ∷ items) ≡ 0
run-ends (Stable k t) items e = absurd (true≢false e)
run-ends (Tentative t) items e = refl
run-ends (Passed b) items e = refl
run-ends (Boundary b m) items e = refl
run-ends (Undo n) items e = refl
run-ends RecDone items e = refl

pub run-further : (from place : ℕ) (items : List Item) (d : Item) → from ≤ place → place < length items → is_stable (slice_index_or items place d) ≡ true →
    run_length (drop from items) ≡ (place - from) + run_length (drop place items) → run_length (drop from items) ≡ (place + 1 - from) + run_length (drop (place + 1) items)
run-further from place items d low inside stable so_far =
    let here = ap run_length (drop_more items place d inside) in
    let next = run-next (slice_index_or items place d) (drop (place + 1) items) stable in omega (arith, low, so_far, here, next)

pub run-found : (from place : ℕ) (items : List Item) (d : Item) → place < length items → is_stable (slice_index_or items place d) ≡ false →
    run_length (drop from items) ≡ (place - from) + run_length (drop place items) → place - from ≡ run_length (drop from items)
run-found from place items d inside other so_far =
    let here = ap run_length (drop_more items place d inside) in
    let ends = run-ends (slice_index_or items place d) (drop (place + 1) items) other in omega (arith, so_far, here, ends)

pub run-all : (from place : ℕ) (items : List Item) → length items ≤ place → run_length (drop from items) ≡ (place - from) + run_length (drop place items) → place - from ≡ run_length (drop from items)
run-all from place items past so_far = let none = ap run_length (drop_all place items past) in omega (arith, so_far, none)

stable_in-split : (n : ℕ) (items : List Item) → stable_in items ≡ stable_in (take n items) ++ stable_in (drop n items)
stable_in-split zero items = refl
stable_in-split (suc n) [] = refl
stable_in-split (suc n) (Stable k t ∷ items) = ap (λ (ts : List Tuple). t ∷ ts) (stable_in-split n items)
stable_in-split (suc n) (Tentative t ∷ items) = stable_in-split n items
stable_in-split (suc n) (Passed b ∷ items) = stable_in-split n items
stable_in-split (suc n) (Boundary b m ∷ items) = stable_in-split n items
stable_in-split (suc n) (Undo b ∷ items) = stable_in-split n items
stable_in-split (suc n) (RecDone ∷ items) = stable_in-split n items

-- behind a run, and behind an item that isn't stable
pub split-run : (n place : ℕ) (items : List Item) → stable_in (drop place items) ≡ stable_in (take n (drop place items)) ++ stable_in (drop (place + n) items)
split-run n place items = stable_in-split n (drop place items) ∙ ap (λ (is : List Item). stable_in (take n (drop place items)) ++ stable_in is) (drop-drop n place items)

none-at : (items : List Item) → run_length items ≡ 0 → stable_in items ≡ stable_in (drop 1 items)
none-at [] e = refl
none-at (Stable k t ∷ items) e = absurd (omega (arith, e))
none-at (Tentative t ∷ items) e = refl
none-at (Passed b ∷ items) e = refl
none-at (Boundary b m ∷ items) e = refl
none-at (Undo n ∷ items) e = refl
none-at (RecDone ∷ items) e = refl

pub split-other : (place : ℕ) (items : List Item) → run_length (drop place items) ≡ 0 → stable_in (drop place items) ≡ stable_in (drop (place + 1) items)
split-other place items e = none-at (drop place items) e ∙ ap stable_in (drop-drop 1 place items)

pub length-stable : (items : List Item) → length (stable_in items) ≤ length items
length-stable [] = omega arith
length-stable (Stable k t ∷ items) = let rest = length-stable items in omega (arith, rest)
length-stable (Tentative t ∷ items) = let rest = length-stable items in omega (arith, rest)
length-stable (Passed b ∷ items) = let rest = length-stable items in omega (arith, rest)
length-stable (Boundary b m ∷ items) = let rest = length-stable items in omega (arith, rest)
length-stable (Undo n ∷ items) = let rest = length-stable items in omega (arith, rest)
length-stable (RecDone ∷ items) = let rest = length-stable items in omega (arith, rest)

-- a run and what stands behind it
pub run-counted : (n place : ℕ) (items : List Item) → n ≡ run_length (drop place items) → length (stable_in (drop place items)) ≡ n + length (stable_in (drop (place + n) items))
run-counted n place items e =
    let all = ap (λ (ts : List Tuple). length ts) (split-run n place items) ∙ length-append (stable_in (take n (drop place items))) (stable_in (drop (place + n) items)) in
    let run = length-run n (drop place items) (omega (arith, e)) in omega (arith, all, run)

-- what an item is at a place doesn't hang on what else there would be
pub same-at : {X : Type 0} (xs : List X) (i : ℕ) (d e : X) → i < length xs → slice_index_or xs i d ≡ slice_index_or xs i e
same-at [] i d e low = absurd (omega (arith, low))
same-at (x ∷ xs) zero d e low = refl
same-at (x ∷ xs) (suc i) d e low = same-at xs i d e (omega (arith, low))

-- so many items were looked at; with the stable ones that are left it is all that is to be there
pub record IsUnderWay (items : List Item) (place count : ℕ) (old now : List (List Tuple)) : Type 0 where
  pub all : joined now ++ stable_in (drop place items) ≡ joined old ++ stable_in items
  pub counted : count + length (stable_in (drop place items)) ≡ length (stable_in items)
  pub within : place ≤ length items
  pub before : IsPrefixOf old now

pub begun : (items : List Item) (old : List (List Tuple)) → IsUnderWay items 0 0 old old
begun items old = record { all = refl; counted = omega arith; within = omega arith; before = ([], sym (append-nil old)) }

-- an item that isn't stable
pub passed-over : (items : List Item) (place count : ℕ) (old now : List (List Tuple)) → place < length items → run_length (drop place items) ≡ 0 → IsUnderWay items place count old now →
    IsUnderWay items (place + 1) count old now
passed-over items place count old now low none h =
    let same = split-other place items none in
    let long = ap (λ (ts : List Tuple). length ts) same in
    let counted = h.counted in
    record {
      all = ap (λ (ts : List Tuple). joined now ++ ts) (sym same) ∙ h.all;
      counted = omega (arith, long, counted);
      within = omega (arith, low);
      before = h.before;
    }

-- one run more
pub one-more : (items : List Item) (place count n : ℕ) (old now new : List (List Tuple)) (run : List Tuple) → place + n ≤ length items → n ≡ run_length (drop place items) →
    run ≡ stable_in (take n (drop place items)) → new ≡ now ++ run ∷ [] → IsUnderWay items place count old now → IsUnderWay items (place + n) (count + n) old new
one-more items place count n old now new run inside long is pushed h =
    let so_far = h.counted in
    let more = run-counted n place items long in
    let rest : List Tuple = stable_in (drop (place + n) items) in
    record {
      all =
          ap (λ (tss : List (List Tuple)). joined tss ++ rest) pushed
          ∙ ap (λ (ts : List Tuple). ts ++ rest) (joined-push now run ∙ ap (λ (ts : List Tuple). joined now ++ ts) is)
          ∙ append_assoc (joined now) (stable_in (take n (drop place items))) rest
          ∙ ap (λ (ts : List Tuple). joined now ++ ts) (sym (split-run n place items))
          ∙ h.all;
      counted = omega (arith, so_far, more);
      within = inside;
      before =
          (h.before.0 ++ run ∷ [], pushed ∙ ap (λ (tss : List (List Tuple)). tss ++ run ∷ []) h.before.1 ∙ append_assoc old h.before.0 (run ∷ []));
    }

pub all-there : (items : List Item) (place count : ℕ) (old now : List (List Tuple)) → length items ≤ place → IsUnderWay items place count old now → joined now ≡ joined old ++ stable_in items
all-there items place count old now past h =
    let none : stable_in (drop place items) ≡ [] = ap stable_in (drop_all place items past) in
    sym (append-nil (joined now)) ∙ ap (λ (ts : List Tuple). joined now ++ ts) (sym none) ∙ h.all

pub all-counted : (items : List Item) (place count : ℕ) (old now : List (List Tuple)) → length items ≤ place → IsUnderWay items place count old now → count ≡ length (stable_in items)
all-counted items place count old now past h =
    let none = ap (λ (is : List Item). length (stable_in is)) (drop_all place items past) in
    let counted = h.counted in omega (arith, none, counted)

-- what is counted stays in range
pub count-fits : (items : List Item) (place count n : ℕ) (old now : List (List Tuple)) → n ≡ run_length (drop place items) → IsUnderWay items place count old now → count + n ≤ length items
count-fits items place count n old now long h =
    let counted = h.counted in
    let more = run-counted n place items long in
    let most = length-stable items in omega (arith, counted, more, most)
