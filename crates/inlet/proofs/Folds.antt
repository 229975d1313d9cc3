-- A fold from the front on: what was taken so far, put before the fold of what is left.
use Rattle.std.proofs.Common.{◌≡◌, ℕ, zero, suc, ◌+◌, ◌<◌, ◌≤◌, true, List, [], ◌∷◌, ◌++◌, map, take, drop, length, Option, Some, None, option_to_list, refl, sym, ap, subst, ◌∙◌, arith, slice_index_or, append-nil, append_assoc, length-append}
use Rattle.std.proofs.lemmas.List.{drop_more, drop_all, map-append}
use Rattle.std.specs.Borrow.{Bor}
use Rattle.dpc_model.specs.Reading.{Reader, Reading, NoReading, Skipped, Taken, reading, Folded, taken_first, fold_items, tuples_in}
use Rattle.dpc_model.specs.declared.tuples.Tuple.{Tuple}
use Rattle.dpc_model.specs.declared.tuples.Item.{Item}
use Rattle.dpc_model.specs.declared.tuples.Item.TheVariants.{Stable, Tentative, Passed, Boundary, Undo, RecDone}
use Rattle.held_tuples.specs.Runs.{stable_in}
use Rattle.inlet.specs.Drafts.{Began, drafted, with_stable_of, with_tuple_of, reading_of, Reads, IsFold}
use Rattle.inlet.specs.declared.draft.ItemReading.{ItemReading}
use Rattle.inlet.specs.declared.draft.ItemReading.TheVariants as verdict
use Rattle.inlet.specs.declared.draft.BatchDraft.{BatchDraft}

-- these items were taken, before the others
abbrev pub taken_before : List Item → Option Folded → Option Folded
taken_before items None = None
taken_before items (Some f) = Some (record f { taken = items ++ f.taken })

-- so many items were read, and of them these were taken
pub record IsUnderWay (items : List Item) (i : ℕ) (old now : BatchDraft) (taken : List Item) : Type 0 where
  pub folded : (base : Reader) → Began base old → fold_items (drafted base old) items ≡ taken_before taken (fold_items (drafted (with_stable_of taken base) now) (drop i items))
  pub counted : now.count ≡ old.count + length (stable_in taken)
  pub held : now.held ≡ true → old.held ≡ true
  pub grows : now.count ≤ old.count + i

pub under-way : (items : List Item) (old : BatchDraft) → IsUnderWay items 0 old old []
under-way items old = record {
  folded = λ base b.
      let same : with_stable_of [] base ≡ base = ap (λ (ts : List Tuple). record base { stable = ts }) (append-nil base.stable) in
      subst (λ (r : Reader). fold_items (drafted base old) items ≡ taken_before [] (fold_items (drafted r old) items)) (sym same) (nothing-before (fold_items (drafted base old) items));
  counted = omega arith;
  held = λ e. e;
  grows = omega arith;
}
  where
    nothing-before : (o : Option Folded) → o ≡ taken_before [] o
    nothing-before None = refl
    nothing-before (Some f) = refl

stable_in-append : (items more : List Item) → stable_in (items ++ more) ≡ stable_in items ++ stable_in more
stable_in-append [] more = refl
stable_in-append (Stable k t ∷ items) more = ap (λ (ts : List Tuple). t ∷ ts) (stable_in-append items more)
stable_in-append (Tentative t ∷ items) more = stable_in-append items more
stable_in-append (Passed b ∷ items) more = stable_in-append items more
stable_in-append (Boundary b m ∷ items) more = stable_in-append items more
stable_in-append (Undo n ∷ items) more = stable_in-append items more
stable_in-append (RecDone ∷ items) more = stable_in-append items more

tuple-of : (item : Item) (ts : List Tuple) → with_tuple_of item ts ≡ ts ++ stable_in (item ∷ [])
tuple-of (Stable k t) ts = refl
tuple-of (Tentative t) ts = sym (append-nil ts)
tuple-of (Passed b) ts = sym (append-nil ts)
tuple-of (Boundary b m) ts = sym (append-nil ts)
tuple-of (Undo n) ts = sym (append-nil ts)
tuple-of RecDone ts = sym (append-nil ts)

-- the tuples of one item more
tuples-more : (ts : List Tuple) (taken : List Item) (item : Item) → with_tuple_of item (ts ++ stable_in taken) ≡ ts ++ stable_in (taken ++ item ∷ [])
tuples-more ts taken item =
    tuple-of item (ts ++ stable_in taken)
    ∙ append_assoc ts (stable_in taken) (stable_in (item ∷ []))
    ∙ ap (λ (us : List Tuple). ts ++ us) (sym (stable_in-append taken (item ∷ [])))

began-now : (items : List Item) (i : ℕ) (old now : BatchDraft) (taken : List Item) (base : Reader) → Began base old → IsUnderWay items i old now taken → Began (with_stable_of taken base) now
began-now items i old now taken base b h = record {
  count = let counted = h.counted in let first = b.count in let long = length-append base.stable (stable_in taken) in omega (arith, counted, first, long);
  held = λ e. b.held (h.held e);
}

before-first : (taken : List Item) (item : Item) (o : Option Folded) → taken_before taken (taken_first item o) ≡ taken_before (taken ++ item ∷ []) o
before-first taken item None = refl
before-first taken item (Some f) = ap (λ (is : List Item). Some (record f { taken = is })) (sym (append_assoc taken (item ∷ []) f.taken))

abbrev folded_by : Reading → Item → List Item → Reader → Option Folded
folded_by NoReading item rest r = None
folded_by Skipped item rest r = fold_items r rest
folded_by (Taken s) item rest r = taken_first item (fold_items s rest)

folds-first : (r : Reader) (item : Item) (rest : List Item) → fold_items r (item ∷ rest) ≡ folded_by (reading r item) item rest r
folds-first r item rest =
    elim (reading r item) as (λ x. elim x [ NoReading ↦ None | Skipped ↦ fold_items r rest | Taken s ↦ taken_first item (fold_items s rest) ] ≡ folded_by x item rest r) [
      | NoReading ↦ refl
      | Skipped ↦ refl
      | Taken s ↦ refl
    ]

-- one item more is read
step : (items : List Item) (i : ℕ) (old now new : BatchDraft) (taken : List Item) (item : Item) (v : ItemReading) (base : Reader) → i < length items → item ≡ slice_index_or items i item →
    IsUnderWay items i old now taken → Reads item now new v → Began base old →
    let r = with_stable_of taken base in
    fold_items (drafted base old) items ≡ taken_before taken (folded_by (reading_of item r new v) item (drop (i + 1) items) (drafted r now))
step items i old now new taken item v base low e h reads b =
    let r : Reader = with_stable_of taken base in
    let here : drop i items ≡ item ∷ drop (i + 1) items = drop_more items i item low ∙ ap (λ (x : Item). x ∷ drop (i + 1) items) (sym e) in
    h.folded base b
    ∙ ap (λ (is : List Item). taken_before taken (fold_items (drafted r now) is)) here
    ∙ ap (λ (o : Option Folded). taken_before taken o)
    (folds-first (drafted r now) item (drop (i + 1) items)
    ∙ ap (λ (x : Reading). folded_by x item (drop (i + 1) items) (drafted r now)) (reads.read r (began-now items i old now taken base b h)))

pub takes : (items : List Item) (i : ℕ) (old now new : BatchDraft) (taken : List Item) (item : Item) → i < length items → item ≡ slice_index_or items i item →
    IsUnderWay items i old now taken → Reads item now new verdict.Taken → IsUnderWay items (i + 1) old new (taken ++ item ∷ [])
takes items i old now new taken item low e h reads = record {
  folded = λ base b.
      step items i old now new taken item verdict.Taken base low e h reads b
      ∙ before-first taken item (fold_items (drafted (record base { stable = with_tuple_of item (base.stable ++ stable_in taken) }) new) (drop (i + 1) items))
      ∙ ap (λ (ts : List Tuple). taken_before (taken ++ item ∷ []) (fold_items (drafted (record base { stable = ts }) new) (drop (i + 1) items))) (tuples-more base.stable taken item);
  counted =
      let one = reads.counted refl in
      let counted = h.counted in
      let long = ap (λ (ts : List Tuple). length ts) (stable_in-append taken (item ∷ [])) ∙ length-append (stable_in taken) (stable_in (item ∷ [])) in omega (arith, one, counted, long);
  held = λ g. h.held (reads.held g);
  grows = let one = reads.grows in let so_far = h.grows in omega (arith, one, so_far);
}

pub skips : (items : List Item) (i : ℕ) (old now new : BatchDraft) (taken : List Item) (item : Item) → i < length items → item ≡ slice_index_or items i item →
    IsUnderWay items i old now taken → Reads item now new verdict.Skipped → IsUnderWay items (i + 1) old new taken
skips items i old now new taken item low e h reads =
    let same : new ≡ now = reads.skipped refl in
    subst (λ (d : BatchDraft). IsUnderWay items (i + 1) old d taken) (sym same) (record {
      folded = λ base b. step items i old now new taken item verdict.Skipped base low e h reads b;
      counted = h.counted;
      held = h.held;
      grows = let so_far = h.grows in omega (arith, so_far);
    })

pub refuses : (items : List Item) (i : ℕ) (old now new : BatchDraft) (taken : List Item) (item : Item) → i < length items → item ≡ slice_index_or items i item →
    IsUnderWay items i old now taken → Reads item now new verdict.Refused → IsFold items old new None
refuses items i old now new taken item low e h reads = record { folded = λ base b. step items i old now new taken item verdict.Refused base low e h reads b }

pub folds-all : (items : List Item) (i : ℕ) (old now : BatchDraft) (taken : List Item) → length items ≤ i → IsUnderWay items i old now taken → IsFold items old now (Some taken)
folds-all items i old now taken past h = record {
  folded = λ base b.
      h.folded base b
      ∙ ap (λ (is : List Item). taken_before taken (fold_items (drafted (with_stable_of taken base) now) is)) (drop_all i items past)
      ∙ ap (λ (is : List Item). Some (record { after = drafted (with_stable_of taken base) now; taken = is })) (append-nil taken);
}

-- the times of the tuples among the items
abbrev pub times_in : List Item → List ℕ
times_in items = map (λ (t : Tuple). t.stime) (tuples_in items)

pub times_in-append : (items more : List Item) → times_in (items ++ more) ≡ times_in items ++ times_in more
times_in-append [] more = refl
times_in-append (Stable k t ∷ items) more = ap (λ (ts : List ℕ). t.stime ∷ ts) (times_in-append items more)
times_in-append (Tentative t ∷ items) more = ap (λ (ts : List ℕ). t.stime ∷ ts) (times_in-append items more)
times_in-append (Passed b ∷ items) more = times_in-append items more
times_in-append (Boundary b m ∷ items) more = times_in-append items more
times_in-append (Undo n ∷ items) more = times_in-append items more
times_in-append (RecDone ∷ items) more = times_in-append items more

-- one item more
pub taken-items : (i : ℕ) (items : List (Bor Item)) (item : Bor Item) → i < length items → item ≡ slice_index_or items i item →
    map (λ (b : Bor Item). b.now) (take (i + 1) items) ≡ map (λ (b : Bor Item). b.now) (take i items) ++ item.now ∷ []
taken-items i [] item low e = absurd (omega (arith, low))
taken-items zero (x ∷ items) item low e = rw e refl
taken-items (suc i) (x ∷ items) item low e =
    let next : suc i + 1 ≡ suc (i + 1) = omega arith in rw next (ap (λ (xs : List Item). x.now ∷ xs) (taken-items i items item (omega (arith, low)) e))

pub times-more : (i : ℕ) (items : List (Bor Item)) (item : Bor Item) (times : List ℕ) (time : Option ℕ) → i < length items → item ≡ slice_index_or items i item →
    times ≡ times_in (map (λ (b : Bor Item). b.now) (take i items)) → option_to_list time ≡ times_in (item.now ∷ []) →
    times ++ option_to_list time ≡ times_in (map (λ (b : Bor Item). b.now) (take (i + 1) items))
times-more i items item times time low e so_far more =
    rw (so_far, more, taken-items i items item low e) (sym (times_in-append (map (λ (b : Bor Item). b.now) (take i items)) (item.now ∷ [])))

-- the values of one more
pub one-pushed : (before after : List (Bor Item)) (b : Bor Item) → after ≡ before ++ b ∷ [] → map (λ (item : Bor Item). item.now) after ≡ map (λ (item : Bor Item). item.now) before ++ b.now ∷ []
one-pushed before after b e = ap (λ (bs : List (Bor Item)). map (λ (item : Bor Item). item.now) bs) e ∙ map-append (λ (item : Bor Item). item.now) before (b ∷ [])
