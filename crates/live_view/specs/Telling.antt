-- What items tell, and where more items may go on.
use Rattle.std.specs.Prelude.{◌≡◌, ⊤, ℕ, ◌+◌, ◌≤◌, ◌==◌, nat_le, if◌then◌else◌, max, List, [], ◌∷◌, ◌++◌}
use Rattle.dpc_model.specs.declared.tuples.Tuple.{Tuple}
use Rattle.dpc_model.specs.declared.tuples.Item.{Item}
use Rattle.dpc_model.specs.declared.tuples.Item.TheVariants.{Stable, Tentative, Passed, Boundary, Undo, RecDone}

-- the stable tuples of items
abbrev pub stable_tuples : List Item → List Tuple
stable_tuples [] = []
stable_tuples (Stable k t ∷ items) = t ∷ stable_tuples items
stable_tuples (Tentative t ∷ items) = stable_tuples items
stable_tuples (Passed b ∷ items) = stable_tuples items
stable_tuples (Boundary b m ∷ items) = stable_tuples items
stable_tuples (Undo n ∷ items) = stable_tuples items
stable_tuples (RecDone ∷ items) = stable_tuples items

-- the greatest of b and the boundaries
abbrev pub greatest_bound : ℕ → List Item → ℕ
greatest_bound b [] = b
greatest_bound b (Stable k t ∷ items) = greatest_bound b items
greatest_bound b (Tentative t ∷ items) = greatest_bound b items
greatest_bound b (Passed c ∷ items) = greatest_bound b items
greatest_bound b (Boundary c m ∷ items) = greatest_bound (max b c) items
greatest_bound b (Undo n ∷ items) = greatest_bound b items
greatest_bound b (RecDone ∷ items) = greatest_bound b items

-- where n stable tuples were told: the stable items go on at that number, and no boundary counts tuples that were not told before it
abbrev pub GoOn : ℕ → List Item → Type 0
GoOn n [] = ⊤
GoOn n (Stable k t ∷ items) = (k ≡ n) × GoOn (n + 1) items
GoOn n (Boundary b m ∷ items) = (m ≤ n) × GoOn n items
GoOn n (Tentative t ∷ items) = GoOn n items
GoOn n (Passed b ∷ items) = GoOn n items
GoOn n (Undo k ∷ items) = GoOn n items
GoOn n (RecDone ∷ items) = GoOn n items

-- where n stable tuples were told: those of the items that go on at that number; others were told before, or some are missing before them
abbrev pub new_tuples : ℕ → List Item → List Tuple
new_tuples n [] = []
new_tuples n (Stable k t ∷ items) = if k == n then t ∷ new_tuples (n + 1) items else new_tuples n items
new_tuples n (Boundary b m ∷ items) = new_tuples n items
new_tuples n (Tentative t ∷ items) = new_tuples n items
new_tuples n (Passed b ∷ items) = new_tuples n items
new_tuples n (Undo k ∷ items) = new_tuples n items
new_tuples n (RecDone ∷ items) = new_tuples n items

-- and the greatest of b and the boundaries that count no more tuples than were told before them
abbrev pub new_bound : ℕ → ℕ → List Item → ℕ
new_bound n b [] = b
new_bound n b (Stable k t ∷ items) = if k == n then new_bound (n + 1) b items else new_bound n b items
new_bound n b (Boundary c m ∷ items) = if nat_le m n then new_bound n (max b c) items else new_bound n b items
new_bound n b (Tentative t ∷ items) = new_bound n b items
new_bound n b (Passed c ∷ items) = new_bound n b items
new_bound n b (Undo k ∷ items) = new_bound n b items
new_bound n b (RecDone ∷ items) = new_bound n b items

-- the items of batches
abbrev pub in_batches : List (List Item) → List Item
in_batches [] = []
in_batches (items ∷ batches) = items ++ in_batches batches
