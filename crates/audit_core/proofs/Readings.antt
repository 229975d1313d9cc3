-- Items that are read one after another.
use Rattle.std.proofs.Common.{◌≡◌, ℕ, ◌+◌, true, false, Bool, List, [], ◌∷◌, length, Option, Some, None, Result, Ok, Err, refl, sym, ap, subst, ◌∙◌, arith}
use Rattle.dpc_lists.specs.declared.faults.NoMemory.{NoMemory}
use Rattle.dpc_model.specs.Reading.{Reader, empty_reader, Reading, NoReading, Skipped, Taken, reading}
use Rattle.dpc_model.specs.declared.tuples.Item.{Item}
use Rattle.audit_core.specs.Audits.{Holds, IsLeft, HasRead, left_by, read_items}
use Rattle.audit_core.specs.declared.reading.Recorded.{Recorded}

-- some items were read, and these are left
pub record IsUnderWay (items left : List Item) (n : ℕ) (v : Recorded) : Type 0 where
  pub reader : Reader
  pub holds : Holds v reader
  pub same : read_items 0 empty_reader items ≡ read_items n reader left

-- one more was read, by what it leaves
abbrev pub read_behind : ℕ → List Item → Option Reader → Result Reader ℕ
read_behind n items None = Err n
read_behind n items (Some r) = read_items (n + 1) r items

pub read-one : (n : ℕ) (r : Reader) (i : Item) (items : List Item) (told : Reading) → reading r i ≡ told → read_items n r (i ∷ items) ≡ read_behind n items (left_by r told)
read-one n r i items NoReading e = rw (e, read_items) refl
read-one n r i items Skipped e = rw (e, read_items) refl
read-one n r i items (Taken s) e = rw (e, read_items) refl

-- the item had a reading
pub one-more : (items left : List Item) (n : ℕ) (i : Item) (v w : Recorded) (told : Result Bool NoMemory) → told ≡ Ok true → HasRead v i told w → IsUnderWay items (i ∷ left) n v → IsUnderWay items left (n + 1) w
one-more items left n i v w told was read h =
    let had = subst (λ (t : Result Bool NoMemory). IsLeft (left_by h.reader (reading h.reader i)) t w) was (read h.reader h.holds) in
    taken (left_by h.reader (reading h.reader i)) had (h.same ∙ read-one n h.reader i left (reading h.reader i) refl)
  where
    taken : (o : Option Reader) → IsLeft o (Ok true) w → read_items 0 empty_reader items ≡ read_behind n left o → IsUnderWay items left (n + 1) w
    taken None h same = absurd h
    taken (Some r) h same = record { reader = r; holds = h; same = same }

-- it had none
pub none-read : (items left : List Item) (n : ℕ) (i : Item) (v w : Recorded) (told : Result Bool NoMemory) → told ≡ Ok false → HasRead v i told w → IsUnderWay items (i ∷ left) n v → read_items 0 empty_reader items ≡ Err n
none-read items left n i v w told was read h =
    let had = subst (λ (t : Result Bool NoMemory). IsLeft (left_by h.reader (reading h.reader i)) t w) was (read h.reader h.holds) in
    refused (left_by h.reader (reading h.reader i)) had (h.same ∙ read-one n h.reader i left (reading h.reader i) refl)
  where
    refused : (o : Option Reader) → IsLeft o (Ok false) w → read_items 0 empty_reader items ≡ read_behind n left o → read_items 0 empty_reader items ≡ Err n
    refused None h same = same
    refused (Some r) h same = absurd h

-- nothing was read yet
pub none-yet : (items left : List Item) (v : Recorded) → left ≡ items → Holds v empty_reader → IsUnderWay items left 0 v
none-yet items left v all h = record { reader = empty_reader; holds = h; same = ap (read_items 0 empty_reader) (sym all) }

-- all were read
pub all-read : (items left : List Item) (many n : ℕ) (v : Recorded) → many ≡ length left → many ≡ 0 → IsUnderWay items left n v → (r : Reader) × (read_items 0 empty_reader items ≡ Ok r) × Holds v r
all-read items [] many n v long none h = (h.reader, h.same, h.holds)
all-read items (i ∷ left) many n v long none h = absurd (omega arith)
