-- A reader of a source that has nothing tentative stays so: no source sends what may be corrected.
use Rattle.std.proofs.Common.{◌≡◌, ℕ, ◌≤◌, Bool, true, false, cond, ◌&&◌, ◌||◌, ◌==◌, nat_lt, nat_le, List, [], ◌∷◌, length, refl, sym, subst, arith, Option, Some, None, inl, inr}
use Rattle.dpc_lists.specs.Lists.{list_all, push}
use Rattle.dpc_model.specs.Reading.{Reader, Reading, NoReading, Skipped, Taken, reading, is_sure, Folded, fold_items, taken_first}
use Rattle.dpc_model.specs.Inlets.{InletState, take_batch, after_next_batch, after_missing_batch, is_old}
use Rattle.dpc_model.specs.declared.batches.Taken.TheVariants.{Old}
use Rattle.dpc_model.specs.declared.tuples.Item.{Item}
use Rattle.dpc_model.specs.declared.tuples.Item.TheVariants.{Stable, Tentative, Passed, Boundary, Undo, RecDone}
use Rattle.dpc_model.specs.declared.messages.Sess.{Sess}
use Rattle.dpc_model.specs.declared.messages.Message.TheVariants as message
use Rattle.node_model.specs.Mails.{Packet, Plain, SnapFor}
use Rattle.world_model.specs.Worlds.{Envelope}
use Rattle.dpc_lists.proofs.Truths.{both, both-of, lt-of, all-append}
use Rattle.law_readers.specs.Sure.{is_sure_item, SendsSurely}
use Rattle.law_settling.proofs.Exact.{inlet_after}

-- an item that needs no correction
abbrev pub is_plain : Item → Bool
is_plain (Stable k t) = true
is_plain (Tentative t) = false
is_plain (Passed b) = false
is_plain (Boundary b m) = true
is_plain (Undo n) = true
is_plain RecDone = true

-- it leaves a sure reader sure, and holds no bound back
pub record Grows (r s : Reader) : Type 0 where
  pub sure : is_sure s ≡ true
  pub bound : r.bound ≤ s.bound

abbrev ReadingGrows : Reader → Reading → Type 0
ReadingGrows r NoReading = Unit {0}
ReadingGrows r Skipped = Unit {0}
ReadingGrows r (Taken s) = Grows r s

reading-grows : (r : Reader) (i : Item) → is_plain i ≡ true → is_sure r ≡ true → ReadingGrows r (reading r i)
reading-grows r (Stable k t) plain sure = elim (nat_lt k (length r.stable)) as (λ b. ReadingGrows r (cond b Skipped (cond (k == length r.stable && is_sure r) (Taken (record r { stable = push r.stable t })) NoReading))) [
  | true ↦ tt
  | false ↦ elim (k == length r.stable && is_sure r) as (λ b. ReadingGrows r (cond b (Taken (record r { stable = push r.stable t })) NoReading)) [ true ↦ record { sure = sure; bound = omega arith } | false ↦ tt ]
]
reading-grows r (Tentative t) plain sure = cc
reading-grows r (Passed b) plain sure = cc
reading-grows r (Boundary b m) plain sure = elim (nat_le m (length r.stable) && is_sure r) as (λ d. ReadingGrows r (cond d (cond (nat_lt r.bound b) (Taken (record r { bound = b })) Skipped) NoReading)) [
  | true ↦ (elim (nat_lt r.bound b) as (λ d. nat_lt r.bound b ≡ d → ReadingGrows r (cond d (Taken (record r { bound = b })) Skipped)) [ true ↦ λ e. record { sure = sure; bound = let less = lt-of r.bound b e in omega (arith, less) } | false ↦ λ e. tt ]) refl
  | false ↦ tt
]
reading-grows r (Undo n) plain sure = record { sure = refl; bound = omega arith }
reading-grows r RecDone plain sure = elim (is_sure r) as (λ b. ReadingGrows r (cond b (Taken r) NoReading)) [ true ↦ record { sure = sure; bound = omega arith } | false ↦ tt ]

-- so does a list of them
abbrev FoldGrows : Reader → Option Folded → Type 0
FoldGrows r None = Unit {0}
FoldGrows r (Some f) = Grows r f.after

grows-further : (r s : Reader) (i : Item) (o : Option Folded) → Grows r s → FoldGrows s o → FoldGrows r (taken_first i o)
grows-further r s i None g h = tt
grows-further r s i (Some f) g h = let one = g.bound in let two = h.bound in record { sure = h.sure; bound = omega (arith, one, two) }

pub fold-grows : (r : Reader) (items : List Item) → list_all is_plain items ≡ true → is_sure r ≡ true → FoldGrows r (fold_items r items)
fold-grows r [] plain sure = record { sure = sure; bound = omega arith }
fold-grows r (i ∷ items) plain sure =
    let p = both (is_plain i) (list_all is_plain items) plain in
    let rest = p.1 in
    elim (reading r i) as (λ x. ReadingGrows r x → FoldGrows r (elim x [ NoReading ↦ None | Skipped ↦ fold_items r items | Taken s ↦ taken_first i (fold_items s items) ])) [
      | NoReading ↦ λ g. tt
      | Skipped ↦ λ g. fold-grows r items rest sure
      | Taken s ↦ λ g. grows-further r s i (fold_items s items) g (fold-grows s items rest g.sure)
    ] (reading-grows r i p.0 sure)

next-grows : (inlet : InletState) (o : Option Folded) → is_sure inlet.held ≡ true → FoldGrows inlet.held o → Grows inlet.held (after_next_batch inlet o).after.held
next-grows inlet None sure h = record { sure = sure; bound = omega arith }
next-grows inlet (Some f) sure h = h

pub take-grows : (inlet : InletState) (u : Sess) (index : ℕ) (items : List Item) → list_all is_plain items ≡ true → is_sure inlet.held ≡ true → Grows inlet.held (take_batch inlet u index items).after.held
unfolding take_batch
take-grows inlet u index items plain sure =
    elim (is_old inlet u index) as (λ b. Grows inlet.held (cond b (record { after = inlet; answer = Old }) (cond (inlet.broken || nat_lt inlet.next index) (after_missing_batch inlet) (after_next_batch inlet (fold_items inlet.held items)))).after.held) [
      | true ↦ record { sure = sure; bound = omega arith }
      | false ↦ elim (inlet.broken || nat_lt inlet.next index) as (λ b. Grows inlet.held (cond b (after_missing_batch inlet) (after_next_batch inlet (fold_items inlet.held items))).after.held) [
        | true ↦ record { sure = sure; bound = omega arith }
        | false ↦ next-grows inlet (fold_items inlet.held items) sure (fold-grows inlet.held items plain sure)
      ]
    ]

-- ---- what a source sends

sure-plain : (items : List Item) → list_all is_sure_item items ≡ true → list_all is_plain items ≡ true
sure-plain [] h = refl
sure-plain (i ∷ items) h =
    let p = both (is_sure_item i) (list_all is_sure_item items) h in
    both-of (is_plain i) (list_all is_plain items) (one i p.0) (sure-plain items p.1)
  where
    one : (i : Item) → is_sure_item i ≡ true → is_plain i ≡ true
    one (Stable k t) e = refl
    one (Boundary b m) e = refl
    one (Tentative t) e = cc
    one (Passed b) e = cc
    one (Undo n) e = cc
    one RecDone e = cc

pub sends-plain : (es : List Envelope) (a to : ℕ) (u : Sess) (index : ℕ) (items : List Item) → SendsSurely es a to (Plain (message.Batch u index items)) → list_all is_plain items ≡ true
sends-plain es a to u index items (inl sure) = sure-plain items sure
sends-plain es a to u index items (inr answer) =
    let it = answer.1 in
    subst (λ (is : List Item). list_all is_plain is ≡ true) (sym it.all) (all-append is_plain it.sure (RecDone ∷ []) (sure-plain it.sure it.are_sure) refl)

-- a packet of plain items leaves an inlet sure
abbrev pub IsPlainPacket : Packet → Type 0
IsPlainPacket p = (v : Sess) (i : ℕ) (items : List Item) → p ≡ Plain (message.Batch v i items) → list_all is_plain items ≡ true

pub after-sure : (packet : Packet) (i : InletState) → IsPlainPacket packet → is_sure i.held ≡ true → is_sure (inlet_after packet i).held ≡ true
after-sure (Plain (message.Batch u index items)) i plain sure = (take-grows i u index items (plain u index items refl) sure).sure
after-sure (Plain (message.Beat b)) i plain sure = sure
after-sure (Plain (message.Subscribe asked)) i plain sure = sure
after-sure (Plain (message.Truncated u base)) i plain sure = sure
after-sure (Plain (message.Ack j n)) i plain sure = sure
after-sure (Plain (message.Ask j n)) i plain sure = sure
after-sure (Plain (message.Grant j n)) i plain sure = sure
after-sure (Plain (message.SnapAsk j n)) i plain sure = sure
after-sure (SnapFor j try s) i plain sure = sure
