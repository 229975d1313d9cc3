-- Of a batch as many items are taken as it has only where each is.
use Rattle.std.proofs.Common.{◌≡◌, ◌≤◌, List, [], ◌∷◌, length, Option, Some, None, refl, sym, ap, subst, arith, replicate}
use Rattle.std.proofs.lemmas.List.{length-replicate}
use Rattle.dpc_model.specs.Reading.{Reader, NoReading, Skipped, Taken, reading, Folded, taken_first, fold_items}
use Rattle.dpc_model.specs.declared.tuples.Tuple.{Tuple}
use Rattle.dpc_model.specs.declared.tuples.Item.{Item}
use Rattle.inlet.specs.Drafts.{Began, drafted, IsFold}
use Rattle.inlet.specs.declared.draft.BatchDraft.{BatchDraft}

-- those that were taken are no more than there are, and are all of them where they are as many
record IsPart (items taken : List Item) : Type 0 where
  within : length taken ≤ length items
  whole : length taken ≡ length items → taken ≡ items

part-skipped : (i : Item) (items taken : List Item) → IsPart items taken → IsPart (i ∷ items) taken
part-skipped i items taken p = let low = p.within in record { within = omega (arith, low); whole = λ e. absurd (omega (arith, low, e)) }

part-taken : (i : Item) (items taken : List Item) → IsPart items taken → IsPart (i ∷ items) (i ∷ taken)
part-taken i items taken p = let low = p.within in record { within = omega (arith, low); whole = λ e. ap (λ (is : List Item). i ∷ is) (p.whole (omega (arith, e))) }

-- so it is of a fold
abbrev AreOf : List Item → Option Folded → Type 0
AreOf items None = Unit {0}
AreOf items (Some f) = IsPart items f.taken

of-taken : (i : Item) (items : List Item) (o : Option Folded) → AreOf items o → AreOf (i ∷ items) (taken_first i o)
of-taken i items None h = tt
of-taken i items (Some f) h = part-taken i items f.taken h

of-skipped : (i : Item) (items : List Item) (o : Option Folded) → AreOf items o → AreOf (i ∷ items) o
of-skipped i items None h = tt
of-skipped i items (Some f) h = part-skipped i items f.taken h

fold-part : (r : Reader) (items : List Item) → AreOf items (fold_items r items)
fold-part r [] = record { within = omega arith; whole = λ e. refl }
fold-part r (i ∷ items) =
    elim (reading r i) as (λ x. AreOf (i ∷ items) (elim x [ NoReading ↦ None | Skipped ↦ fold_items r items | Taken s ↦ taken_first i (fold_items s items) ])) [
      | NoReading ↦ tt
      | Skipped ↦ of-skipped i items (fold_items r items) (fold-part r items)
      | Taken s ↦ of-taken i items (fold_items s items) (fold-part s items)
    ]

-- a reader that a draft may have begun with
abbrev reader_before : BatchDraft → Reader
reader_before d = let some : Tuple = record { stime = 0; vals = [] } in record { stable = replicate d.count some; bound = 0; tentative = some ∷ []; passed = 0 }

begins : (d : BatchDraft) → Began (reader_before d) d
begins d = let some : Tuple = record { stime = 0; vals = [] } in record { count = sym (length-replicate d.count some); held = λ e. refl }

of-fold : (items : List Item) (old new : BatchDraft) (taken : List Item) → IsFold items old new (Some taken) → IsPart items taken
of-fold items old new taken f = subst (AreOf items) (f.folded (reader_before old) (begins old)) (fold-part (drafted (reader_before old) old) items)

pub whole-taken : (items : List Item) (old new : BatchDraft) (taken : List Item) → IsFold items old new (Some taken) → length taken ≡ length items → taken ≡ items
whole-taken items old new taken f e = let part = of-fold items old new taken f in part.whole e

pub within-taken : (items : List Item) (old new : BatchDraft) (taken : List Item) → IsFold items old new (Some taken) → length taken ≤ length items
within-taken items old new taken f = let part = of-fold items old new taken f in part.within
