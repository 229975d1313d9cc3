-- A reader that takes items which fit its stream stays sound, and the tuples taken stamp buckets of the run.
use Rattle.std.proofs.Common.{◌≡◌, ℕ, ◌/◌, ◌<◌, ◌≤◌, true, false, cond, ◌&&◌, ◌||◌, ◌==◌, nat_lt, nat_le, nat_eq as eqb, List, [], ◌∷◌, ◌++◌, length, refl, arith, Option, Some, None, is_some}
use Rattle.std.proofs.lemmas.Grind.{common_steps}
use Rattle.std.proofs.Math.Nat.{le-div_iff_mul-le}
use Rattle.dpc_lists.specs.Lists.{list_all, push, is_nil}
use Rattle.dpc_model.specs.Reading.{Reader, NoReading, Skipped, Taken, reading, is_sure, Folded, fold_items, taken_first, tuples_in}
use Rattle.dpc_model.specs.Inlets.{InletState, AfterBatch, take_batch, is_old, after_missing_batch, after_next_batch}
use Rattle.dpc_model.specs.Due.{Stamps, stamp_of, with_stamp, with_stamps}
use Rattle.dpc_model.specs.declared.batches.Taken.TheVariants.{Used, Old}
use Rattle.dpc_model.specs.declared.tuples.Tuple.{Tuple}
use Rattle.dpc_model.specs.declared.tuples.Item.{Item}
use Rattle.dpc_model.specs.declared.tuples.Item.TheVariants.{Stable, Tentative, Passed, Boundary, Undo, RecDone}
use Rattle.dpc_model.specs.declared.messages.Sess.{Sess}
use Rattle.dpc_model.specs.declared.plans.Plan.{Plan}
use Rattle.dpc_model.specs.declared.plans.StreamRef.{StreamRef}
use Rattle.node_model.specs.Nodes.{buckets_of}
use Rattle.world_model.specs.Orderly.{is_passed_mark, is_tentative_past, fits_stream, item_fits}
use Rattle.law_safety.specs.Plans.{IsChecked}
use Rattle.dpc_lists.proofs.Truths.{both, both-of, le-test, lt-of, lt-test, all-append, or-right}
use Rattle.law_safety.proofs.Closing.{is_stamp_in}

-- what is kept of a reader: its tentative tuples lie past its bound, and fit the stream
pub record IsSoundReader (plan : Plan) (s : StreamRef) (r : Reader) : Type 0 where
  pub past : is_tentative_past plan r ≡ true
  pub fits : list_all (fits_stream plan s) r.tentative ≡ true

-- a reader that is sure is sound
sure-past : (plan : Plan) (r : Reader) (ts : List Tuple) (b : ℕ) → is_sure r ≡ true → is_tentative_past plan (record { stable = ts; bound = b; tentative = r.tentative; passed = r.passed }) ≡ true
sure-past plan r ts b e = by-parts r.tentative r.passed e
  where
    by-parts : (tentative : List Tuple) (passed : ℕ) → (is_nil tentative && passed == 0) ≡ true →
        (list_all (λ (t : Tuple). nat_le b t.stime) tentative && is_passed_mark plan b passed) ≡ true
    by-parts [] passed f = let none : (passed == 0) ≡ true = f in rw none refl
    by-parts (t ∷ more) passed f = cc

-- an item that is taken
reading-sound : (plan : Plan) (s : StreamRef) (r r' : Reader) (i : Item) → IsSoundReader plan s r → item_fits plan s i ≡ true → reading r i ≡ Taken r' → IsSoundReader plan s r'
reading-sound plan s r r' (Stable k t) h fit e =
    (elim (nat_lt k (length r.stable)) as (λ b. cond b Skipped (cond (eqb k (length r.stable) && is_sure r) (Taken (record r { stable = push r.stable t })) NoReading) ≡ Taken r' → IsSoundReader plan s r') [
      | true ↦ λ f. cc
      | false ↦ elim (eqb k (length r.stable) && is_sure r) as (λ b. cond b (Taken (record r { stable = push r.stable t })) NoReading ≡ Taken r' → IsSoundReader plan s r') [
        | true ↦ λ f. let same : r' ≡ record r { stable = push r.stable t } = cc in rw same (record { past = h.past; fits = h.fits })
        | false ↦ λ f. cc
      ]
    ]) e
reading-sound plan s r r' (Tentative t) h fit e =
    (elim (nat_le r.bound t.stime) as (λ b. nat_le r.bound t.stime ≡ b → cond b (Taken (record r { tentative = push r.tentative t })) Skipped ≡ Taken r' → IsSoundReader plan s r') [
      | true ↦ λ g f.
          let same : r' ≡ record r { tentative = push r.tentative t } = cc in
          let p = both (list_all (λ (t : Tuple). nat_le r.bound t.stime) r.tentative) (is_passed_mark plan r.bound r.passed) h.past in
          rw same (record {
            past = both-of (list_all (λ (t : Tuple). nat_le r.bound t.stime) (r.tentative ++ t ∷ [])) (is_passed_mark plan r.bound r.passed)
                (all-append (λ (t : Tuple). nat_le r.bound t.stime) r.tentative (t ∷ []) p.0 (both-of (nat_le r.bound t.stime) true g refl)) p.1;
            fits = all-append (fits_stream plan s) r.tentative (t ∷ []) h.fits (both-of (fits_stream plan s t) true fit refl);
          })
      | false ↦ λ g f. cc
    ]) refl e
reading-sound plan s r r' (Passed b) h fit e =
    (elim (nat_lt r.bound b) as (λ c. nat_lt r.bound b ≡ c → cond (c && nat_lt r.passed b) (Taken (record r { passed = b })) Skipped ≡ Taken r' → IsSoundReader plan s r') [
      | true ↦ λ g. elim (nat_lt r.passed b) as (λ c. cond c (Taken (record r { passed = b })) Skipped ≡ Taken r' → IsSoundReader plan s r') [
        | true ↦ λ f.
            let same : r' ≡ record r { passed = b } = cc in
            let p = both (list_all (λ (t : Tuple). nat_le r.bound t.stime) r.tentative) (is_passed_mark plan r.bound r.passed) h.past in
            rw same (record { past = both-of (list_all (λ (t : Tuple). nat_le r.bound t.stime) r.tentative) (is_passed_mark plan r.bound b) p.0 (or-right (b == 0) (plan.passing && nat_lt r.bound b) (both-of plan.passing (nat_lt r.bound b) (both plan.passing (nat_le b plan.end) fit).0 g)); fits = h.fits })
        | false ↦ λ f. cc
      ]
      | false ↦ λ g f. cc
    ]) refl e
reading-sound plan s r r' (Boundary b m) h fit e =
    (elim (nat_le m (length r.stable)) as (λ c. cond (c && is_sure r) (cond (nat_lt r.bound b) (Taken (record r { bound = b })) Skipped) NoReading ≡ Taken r' → IsSoundReader plan s r') [
      | false ↦ λ f. cc
      | true ↦ (elim (is_sure r) as (λ c. is_sure r ≡ c → cond c (cond (nat_lt r.bound b) (Taken (record r { bound = b })) Skipped) NoReading ≡ Taken r' → IsSoundReader plan s r') [
        | false ↦ λ g f. cc
        | true ↦ λ g. elim (nat_lt r.bound b) as (λ c. cond c (Taken (record r { bound = b })) Skipped ≡ Taken r' → IsSoundReader plan s r') [
          | false ↦ λ f. cc
          | true ↦ λ f. let same : r' ≡ record r { bound = b } = cc in rw same (record { past = sure-past plan r r.stable b g; fits = h.fits })
        ]
      ]) refl
    ]) e
reading-sound plan s r r' (Undo n) h fit e = let same : r' ≡ record r { tentative = []; passed = 0 } = cc in rw same (record { past = refl; fits = refl })
reading-sound plan s r r' RecDone h fit e =
    (elim (is_sure r) as (λ c. cond c (Taken r) NoReading ≡ Taken r' → IsSoundReader plan s r') [
      | true ↦ λ f. let same : r' ≡ r = cc in rw same h
      | false ↦ λ f. cc
    ]) e

-- and a list of items; what was taken fits too
pub fold_items-sound : (plan : Plan) (s : StreamRef) (r : Reader) (items : List Item) (f : Folded) → IsSoundReader plan s r → list_all (item_fits plan s) items ≡ true → fold_items r items ≡ Some f →
    IsSoundReader plan s f.after × (list_all (item_fits plan s) f.taken ≡ true)
fold_items-sound plan s r [] f h k e = let same : f ≡ record { after = r; taken = [] } = cc in rw same (h, refl)
fold_items-sound plan s r (i ∷ items) f h k e =
    let fit = both (item_fits plan s i) (list_all (item_fits plan s) items) k in
    (elim (reading r i) as (λ x. reading r i ≡ x → elim x [ NoReading ↦ None | Skipped ↦ fold_items r items | Taken r' ↦ taken_first i (fold_items r' items) ] ≡ Some f →
    IsSoundReader plan s f.after × (list_all (item_fits plan s) f.taken ≡ true)) [
      | NoReading ↦ λ g d. cc
      | Skipped ↦ λ g d. fold_items-sound plan s r items f h fit.1 d
      | Taken r' ↦ λ g d.
          (elim (fold_items r' items) as (λ o. fold_items r' items ≡ o → taken_first i o ≡ Some f → IsSoundReader plan s f.after × (list_all (item_fits plan s) f.taken ≡ true)) [
            | None ↦ λ q d'. cc
            | Some g' ↦ λ q d'.
                let same : f ≡ record g' { taken = i ∷ g'.taken } = cc in
                let rest = fold_items-sound plan s r' items g' (reading-sound plan s r r' i h fit.0 g) fit.1 q in
                rw same (rest.0, both-of (item_fits plan s i) (list_all (item_fits plan s) g'.taken) fit.0 rest.1)
          ]) refl d
    ]) refl e

-- ---- a batch

-- what a batch leaves: a sound reader in the same session, and items that fit
pub record TookSoundly (plan : Plan) (s : StreamRef) (inlet : InletState) (t : AfterBatch) : Type 0 where
  pub reader : IsSoundReader plan s t.after.held
  pub sess : t.after.sess ≡ inlet.sess
  pub answer : (items : List Item) → t.answer ≡ Used items → list_all (item_fits plan s) items ≡ true

used-sound : (plan : Plan) (s : StreamRef) (inlet : InletState) (items : List Item) (o : Option Folded) → fold_items inlet.held items ≡ o → IsSoundReader plan s inlet.held → list_all (item_fits plan s) items ≡ true →
    TookSoundly plan s inlet (after_next_batch inlet o)
used-sound plan s inlet items None e h k = record { reader = h; sess = refl; answer = λ taken f. cc }
used-sound plan s inlet items (Some f) e h k =
    let p = fold_items-sound plan s inlet.held items f h k e in
    record { reader = p.0; sess = refl; answer = λ taken g. let same : taken ≡ f.taken = cc in rw same p.1 }

pub take_batch-sound : (plan : Plan) (s : StreamRef) (inlet : InletState) (u : Sess) (index : ℕ) (items : List Item) → IsSoundReader plan s inlet.held → list_all (item_fits plan s) items ≡ true →
    TookSoundly plan s inlet (take_batch inlet u index items)
unfolding take_batch
take_batch-sound plan s inlet u index items h k =
    elim (is_old inlet u index) as (λ c. TookSoundly plan s inlet (cond c (record { after = inlet; answer = Old }) (cond (inlet.broken || nat_lt inlet.next index) (after_missing_batch inlet) (after_next_batch inlet (fold_items inlet.held items))))) [
      | true ↦ record { reader = h; sess = refl; answer = λ taken f. cc }
      | false ↦ elim (inlet.broken || nat_lt inlet.next index) as (λ c. TookSoundly plan s inlet (cond c (after_missing_batch inlet) (after_next_batch inlet (fold_items inlet.held items)))) [
        | true ↦ record { reader = h; sess = refl; answer = λ taken f. cc }
        | false ↦ used-sound plan s inlet items (fold_items inlet.held items) refl h k
      ]
    ]

-- ---- stamps

-- a tuple below end lies in a bucket of the run
bucket-within : (plan : Plan) (time : ℕ) → IsChecked plan → time < plan.end → time / plan.width < buckets_of plan
bucket-within plan time checked h =
    let pos = checked.width in
    let whole = checked.whole in
    let up = (le-div_iff_mul-le {k = plan.width} {x = buckets_of plan} {y = time} pos).0 in
    (elim (nat_lt (time / plan.width) (buckets_of plan)) as (λ b. nat_lt (time / plan.width) (buckets_of plan) ≡ b → time / plan.width < buckets_of plan) [
      | true ↦ λ e. lt-of (time / plan.width) (buckets_of plan) e
      | false ↦ λ e.
          let high : buckets_of plan ≤ time / plan.width = grind (arith, common_steps) in
          let past : plan.end ≤ time = rw whole at (up high) in absurd (omega (arith, past, h))
    ]) refl

stamped-in : (c clock buckets k : ℕ) (stamps : Stamps) → k < buckets → list_all (is_stamp_in c buckets) stamps ≡ true → list_all (is_stamp_in c buckets) (with_stamp c clock stamps k) ≡ true
stamped-in c clock buckets k stamps h all =
    (elim (nat_lt k c) as (λ b. nat_lt k c ≡ b → list_all (is_stamp_in c buckets) (cond (b || is_some (stamp_of stamps k)) stamps (push stamps (k, clock))) ≡ true) [
      | true ↦ λ e. all
      | false ↦ λ e. elim (is_some (stamp_of stamps k)) as (λ b. list_all (is_stamp_in c buckets) (cond b stamps (push stamps (k, clock))) ≡ true) [
        | true ↦ all
        | false ↦ all-append (is_stamp_in c buckets) stamps ((k, clock) ∷ []) all
            (both-of (is_stamp_in c buckets (k, clock)) true
            (both-of (nat_le c k) (nat_lt k buckets) (let low : c ≤ k = grind (arith, common_steps) in le-test c k low) (lt-test k buckets h)) refl)
      ]
    ]) refl

pub stamps-taken : (plan : Plan) (c clock : ℕ) (stamps : Stamps) (ts : List Tuple) → IsChecked plan → list_all (λ (t : Tuple). nat_lt t.stime plan.end) ts ≡ true →
    list_all (is_stamp_in c (buckets_of plan)) stamps ≡ true → list_all (is_stamp_in c (buckets_of plan)) (with_stamps plan.width c clock stamps ts) ≡ true
stamps-taken plan c clock stamps [] checked h all = all
stamps-taken plan c clock stamps (t ∷ ts) checked h all =
    let p = both (nat_lt t.stime plan.end) (list_all (λ (t : Tuple). nat_lt t.stime plan.end) ts) h in
    stamps-taken plan c clock (with_stamp c clock stamps (t.stime / plan.width)) ts checked p.1
    (stamped-in c clock (buckets_of plan) (t.stime / plan.width) stamps (bucket-within plan t.stime checked (lt-of t.stime plan.end p.0)) all)

-- the tuples of items that fit lie below end
pub tuples-below : (plan : Plan) (s : StreamRef) (items : List Item) → list_all (item_fits plan s) items ≡ true → list_all (λ (t : Tuple). nat_lt t.stime plan.end) (tuples_in items) ≡ true
tuples-below plan s [] h = refl
tuples-below plan s (Stable k t ∷ items) h =
    let p = both (fits_stream plan s t) (list_all (item_fits plan s) items) h in both-of (nat_lt t.stime plan.end) _ (both (nat_lt t.stime plan.end) _ p.0).0 (tuples-below plan s items p.1)
tuples-below plan s (Tentative t ∷ items) h =
    let p = both (fits_stream plan s t) (list_all (item_fits plan s) items) h in both-of (nat_lt t.stime plan.end) _ (both (nat_lt t.stime plan.end) _ p.0).0 (tuples-below plan s items p.1)
tuples-below plan s (Passed b ∷ items) h = tuples-below plan s items (both (plan.passing && nat_le b plan.end) _ h).1
tuples-below plan s (Boundary b m ∷ items) h = tuples-below plan s items (both (nat_le b plan.end) _ h).1
tuples-below plan s (Undo n ∷ items) h = tuples-below plan s items (both true _ h).1
tuples-below plan s (RecDone ∷ items) h = tuples-below plan s items (both true _ h).1
