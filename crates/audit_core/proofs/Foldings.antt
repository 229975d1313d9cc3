-- Items that are read are folded.
use Rattle.std.proofs.Common.{◌≡◌, ℕ, ◌+◌, List, [], ◌∷◌, ◌++◌, length, Option, Some, None, Result, Ok, Err, refl, sym, ap, subst, ◌∙◌, arith}
use Rattle.dpc_model.specs.Reading.{Reader, empty_reader, Reading, NoReading, Skipped, Taken, reading, Folded, taken_first, fold_items}
use Rattle.dpc_model.specs.declared.tuples.Item.{Item}
use Rattle.audit_core.specs.Audits.{read_items}
use Rattle.audit_core.specs.Meanings.{IsFirstWithout}
use Rattle.audit_core.proofs.Readings.{read-one}

-- the fold behind one item
abbrev fold_behind : Reader → Item → List Item → Reading → Option Folded
fold_behind r i items NoReading = None
fold_behind r i items Skipped = fold_items r items
fold_behind r i items (Taken s) = taken_first i (fold_items s items)

fold-one : (r : Reader) (i : Item) (items : List Item) (told : Reading) → reading r i ≡ told → fold_items r (i ∷ items) ≡ fold_behind r i items told
fold-one r i items NoReading e = rw (e, fold_items) refl
fold-one r i items Skipped e = rw (e, fold_items) refl
fold-one r i items (Taken s) e = rw (e, fold_items) refl

-- a fold that leaves this reader
record Leaves (o : Option Folded) (s : Reader) : Type 0 where
  pub folded : Folded
  pub is : o ≡ Some folded
  pub after : folded.after ≡ s

leaves-first : (i : Item) (o : Option Folded) (s : Reader) → Leaves o s → Leaves (taken_first i o) s
leaves-first i o s h = record { folded = record h.folded { taken = i ∷ h.folded.taken }; is = ap (taken_first i) h.is; after = h.after }

leaves-read : (n : ℕ) (r s : Reader) (items : List Item) → read_items n r items ≡ Ok s → Leaves (fold_items r items) s
leaves-read n r s [] e = record { folded = record { after = r; taken = [] }; is = refl; after = cc }
leaves-read n r s (i ∷ items) e =
    (elim (reading r i) as (λ told. reading r i ≡ told → Leaves (fold_items r (i ∷ items)) s) [
      | NoReading ↦ λ is. absurd (let refused : Err n ≡ Ok s = sym (read-one n r i items NoReading is) ∙ e in cc)
      | Skipped ↦ λ is.
          subst (λ o. Leaves o s) (sym (fold-one r i items Skipped is)) (leaves-read (n + 1) r s items (sym (read-one n r i items Skipped is) ∙ e))
      | Taken t ↦ λ is.
          subst (λ o. Leaves o s) (sym (fold-one r i items (Taken t) is))
          (leaves-first i (fold_items t items) s (leaves-read (n + 1) t s items (sym (read-one n r i items (Taken t) is) ∙ e)))
    ]) refl

-- the items are read as this reader
pub record IsRead (items : List Item) (s : Reader) : Type 0 where
  pub folded : Folded
  pub is : fold_items empty_reader items ≡ Some folded
  pub after : folded.after ≡ s

pub all-folded : (items : List Item) (s : Reader) → read_items 0 empty_reader items ≡ Ok s → IsRead items s
all-folded items s e = let l = leaves-read 0 empty_reader s items e in record { folded = l.folded; is = l.is; after = l.after }

-- behind so many items with a reading, of which the reader was left, this one has none
record IsRefused (r : Reader) (items : List Item) (m n : ℕ) : Type 0 where
  pub before : List Item
  pub item : Item
  pub behind : List Item
  pub split : items ≡ before ++ item ∷ behind
  pub long : m + length before ≡ n
  pub read : Folded
  pub has : fold_items r before ≡ Some read
  pub lacks : reading read.after item ≡ NoReading

refused-here : (m n : ℕ) (r : Reader) (i : Item) (items : List Item) → reading r i ≡ NoReading → m ≡ n → IsRefused r (i ∷ items) m n
refused-here m n r i items none same = record {
  before = [];
  item = i;
  behind = items;
  split = refl;
  long = omega (arith, same);
  read = record { after = r; taken = [] };
  has = refl;
  lacks = none;
}

refused-skipped : (m n : ℕ) (r : Reader) (i : Item) (items : List Item) → reading r i ≡ Skipped → IsRefused r items (m + 1) n → IsRefused r (i ∷ items) m n
refused-skipped m n r i items is h = record {
  before = i ∷ h.before;
  item = h.item;
  behind = h.behind;
  split = ap (λ is. i ∷ is) h.split;
  long = let l = h.long in omega (arith, l);
  read = h.read;
  has = fold-one r i h.before Skipped is ∙ h.has;
  lacks = h.lacks;
}

refused-taken : (m n : ℕ) (r s : Reader) (i : Item) (items : List Item) → reading r i ≡ Taken s → IsRefused s items (m + 1) n → IsRefused r (i ∷ items) m n
refused-taken m n r s i items is h = record {
  before = i ∷ h.before;
  item = h.item;
  behind = h.behind;
  split = ap (λ is. i ∷ is) h.split;
  long = let l = h.long in omega (arith, l);
  read = record h.read { taken = i ∷ h.read.taken };
  has = fold-one r i h.before (Taken s) is ∙ ap (taken_first i) h.has;
  lacks = h.lacks;
}

refused-read : (m n : ℕ) (r : Reader) (items : List Item) → read_items m r items ≡ Err n → IsRefused r items m n
refused-read m n r [] e = absurd (cc)
refused-read m n r (i ∷ items) e =
    (elim (reading r i) as (λ told. reading r i ≡ told → IsRefused r (i ∷ items) m n) [
      | NoReading ↦ λ is. refused-here m n r i items is (let both : ◌≡◌ {A = Result Reader ℕ} (Err m) (Err n) = sym (read-one m r i items NoReading is) ∙ e in cc)
      | Skipped ↦ λ is. refused-skipped m n r i items is (refused-read (m + 1) n r items (sym (read-one m r i items Skipped is) ∙ e))
      | Taken s ↦ λ is. refused-taken m n r s i items is (refused-read (m + 1) n s items (sym (read-one m r i items (Taken s) is) ∙ e))
    ]) refl

pub first-without : (items : List Item) (n : ℕ) → read_items 0 empty_reader items ≡ Err n → IsFirstWithout items n
first-without items n e =
    let h = refused-read 0 n empty_reader items e in
    record {
      before = h.before;
      item = h.item;
      behind = h.behind;
      split = h.split;
      long = let l = h.long in omega (arith, l);
      read = h.read;
      has = h.has;
      lacks = h.lacks;
    }
