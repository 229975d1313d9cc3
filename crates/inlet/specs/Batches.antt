-- A batch as an inlet reads it, before it changes.
use Rattle.std.specs.Prelude.{◌≡◌, ℕ, ◌≤◌, List, map, length, Some}
use Rattle.std.specs.Borrow.{Bor}
use Rattle.dpc_model.specs.Inlets.{InletState, AfterBatch, take_batch, after_missing_batch, after_next_batch}
use Rattle.dpc_model.specs.PartStands.{InletValue}
use Rattle.dpc_model.specs.declared.tuples.Tuple.{Tuple}
use Rattle.dpc_model.specs.declared.tuples.Item.{Item}
use Rattle.dpc_model.specs.declared.batches.Taken.TheVariants as taken_as
use Rattle.dpc_model.specs.declared.messages.Sess.{Sess}
use Rattle.inlet.specs.Drafts.{folded_of}
use Rattle.inlet.specs.Forgotten.{Keeps}
use Rattle.inlet.specs.declared.inlet.Batch.{Batch}
use Rattle.inlet.specs.declared.inlet.Batch.TheVariants as batch

-- what a batch leaves of the plain inlet, and the answer to it
abbrev pub left_by : InletState → Batch → AfterBatch
left_by x (batch.Next d taken) = after_next_batch x (folded_of x.held d (Some (map (λ (item : Bor Item). item.now) taken.items)))
left_by x batch.Old = record { after = x; answer = taken_as.Old }
left_by x batch.Broken = after_missing_batch x

-- so many items at most were taken
abbrev pub AddsWithin : ℕ → Batch → Type 0
AddsWithin n (batch.Next d taken) = length taken.items ≤ n
AddsWithin n batch.Old = Unit {0}
AddsWithin n batch.Broken = Unit {0}

-- of the items that were taken there are as many as in the batch only where they are the batch
abbrev pub IsWhole : List Item → Batch → Type 0
IsWhole items (batch.Next d taken) = length taken.items ≡ length items → map (λ (item : Bor Item). item.now) taken.items ≡ items
IsWhole items batch.Old = Unit {0}
IsWhole items batch.Broken = Unit {0}

-- a batch is read as the plain inlet takes it
pub record IsRead (sess : Sess) (index : ℕ) (items : List Item) (v : InletValue) (b : Batch) : Type 0 where
  pub left : (gone : List Tuple) (x : InletState) → Keeps gone v x → take_batch x sess index items ≡ left_by x b
  pub within : AddsWithin (length items) b
  pub whole : IsWhole items b
