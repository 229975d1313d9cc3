-- Items being read, before anything of the inlet changes.
use Rattle.std.specs.Prelude.{◌≡◌, ◌+◌, ◌≤◌, true, false, not, ◌||◌, ◌==◌, if◌then◌else◌, List, [], ◌∷◌, ◌++◌, length, Option, Some, None}
use Rattle.dpc_lists.specs.Lists.{is_nil, push}
use Rattle.dpc_model.specs.Reading.{Reader, Reading, NoReading, Skipped, Taken, reading, Folded, fold_items}
use Rattle.dpc_model.specs.declared.tuples.Item.{Item}
use Rattle.dpc_model.specs.declared.tuples.Item.TheVariants as item_of
use Rattle.dpc_model.specs.declared.tuples.Tuple.{Tuple}
use Rattle.held_tuples.specs.Runs.{stable_in}
use Rattle.dpc_model.specs.PartStands.{InletValue}
use Rattle.inlet.specs.declared.draft.BatchDraft.{BatchDraft}
use Rattle.inlet.specs.declared.draft.ItemReading.{ItemReading}
use Rattle.inlet.specs.declared.draft.ItemReading.TheVariants as verdict

-- what a draft knows of the reader that it began with
pub record Began (base : Reader) (d : BatchDraft) : Type 0 where
  pub count : d.count ≡ length base.stable
  pub held : d.held ≡ true → is_nil base.tentative ≡ false

-- the reader with the tuples of the stable ones among these items too
abbrev pub with_stable_of : List Item → Reader → Reader
with_stable_of items r = record r { stable = r.stable ++ stable_in items }

-- the reader, which has the stable tuples that the draft counts, together with what the draft adds
abbrev pub drafted : Reader → BatchDraft → Reader
drafted base d = record {
  stable = base.stable;
  bound = d.bound;
  tentative = (if d.held then base.tentative else []) ++ d.tentative.items;
  passed = d.passed;
}

-- the tuples with the item's, where it is stable
abbrev pub with_tuple_of : Item → List Tuple → List Tuple
with_tuple_of (item_of.Stable k t) ts = push ts t
with_tuple_of (item_of.Tentative t) ts = ts
with_tuple_of (item_of.Passed b) ts = ts
with_tuple_of (item_of.Boundary b m) ts = ts
with_tuple_of (item_of.Undo n) ts = ts
with_tuple_of item_of.RecDone ts = ts

-- the reading of an item that left the draft so
abbrev pub reading_of : Item → Reader → BatchDraft → ItemReading → Reading
reading_of item base d verdict.Refused = NoReading
reading_of item base d verdict.Skipped = Skipped
reading_of item base d verdict.Taken = Taken (drafted (record base { stable = with_tuple_of item base.stable }) d)

-- an item is read as the reader would that the draft stands for
pub record Reads (item : Item) (old new : BatchDraft) (v : ItemReading) : Type 0 where
  pub read : (base : Reader) → Began base old → reading (drafted base old) item ≡ reading_of item base new v
  pub skipped : v ≡ verdict.Skipped → new ≡ old
  pub counted : v ≡ verdict.Taken → new.count ≡ old.count + length (stable_in (item ∷ []))
  pub held : new.held ≡ true → old.held ≡ true
  pub grows : new.count ≤ old.count + 1

-- the reading of items that left the draft so
abbrev pub folded_of : Reader → BatchDraft → Option (List Item) → Option Folded
folded_of base d None = None
folded_of base d (Some items) = Some (record { after = drafted (with_stable_of items base) d; taken = items })

-- items are read in order as the reader would that the draft stands for, and these were taken, or there was one without a reading
pub record IsFold (items : List Item) (old new : BatchDraft) (taken : Option (List Item)) : Type 0 where
  pub folded : (base : Reader) → Began base old → fold_items (drafted base old) items ≡ folded_of base new taken

-- the draft of an inlet before the first item is read
pub record IsEmpty (v : InletValue) (d : BatchDraft) : Type 0 where
  pub count : d.count ≡ v.count
  pub bound : d.bound ≡ v.state.held.bound
  pub held : d.held ≡ not (is_nil v.state.held.tentative)
  pub tentative : d.tentative.items ≡ []
  pub passed : d.passed ≡ v.state.held.passed

-- the inlet together with what the draft of the next batch adds, of which these items were taken
abbrev pub committed : InletValue → BatchDraft → List Item → InletValue
committed v d taken = record {
  count = v.count + length (stable_in taken);
  state = record v.state { held = drafted (with_stable_of taken v.state.held) d; next = v.state.next + 1; answered = v.state.answered || v.state.next == 0 };
}
