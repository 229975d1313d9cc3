-- What can be told of an operator without its expressions.
use Rattle.std.specs.Prelude.{⊤, ◌≡◌, ℕ, ◌+◌, ◌≤◌, nat_lt, nat_le, [], ◌∷◌, length, is_some, if◌then◌else◌}
use Rattle.dpc_lists.specs.Lists.{list_all}
use Rattle.dpc_model.specs.declared.operators.OpKind.{OpKind}
use Rattle.dpc_model.specs.declared.operators.OpKind.TheVariants as kind
use Rattle.script_rules.specs.Reasons.{fits_inputs, is_too_large}
use Rattle.script_draft.specs.declared.shape.Shape.{Shape}
use Rattle.script_draft.specs.declared.shape.Shape.TheVariants.{Filter, Map, Union, Join, Aggregate}

-- so many columns must be there, as far as an input has at most 8
abbrev pub Reads : OpKind → ℕ → Type 0
Reads k reads = (n : ℕ) → n ≤ 8 → fits_inputs k (n ∷ []) ≡ nat_le reads n

-- an operator has a shape
abbrev pub HasShape : OpKind → Shape → Type 0
HasShape (kind.Filter e) (Filter reads words) = Reads (kind.Filter e) reads × (is_too_large (kind.Filter e) ≡ nat_lt 64 words)
HasShape (kind.Map es) (Map reads words columns) = Reads (kind.Map es) reads × (is_too_large (kind.Map es) ≡ nat_lt 64 words) × (length es ≡ columns)
HasShape kind.Union Union = ⊤
HasShape (kind.Join within keys) (Join left right) =
    ((n : ℕ) → n ≤ 8 → list_all (λ (key : ℕ × ℕ). nat_lt key.0 n) keys ≡ nat_le left n) × ((n : ℕ) → n ≤ 8 → list_all (λ (key : ℕ × ℕ). nat_lt key.1 n) keys ≡ nat_le right n)
HasShape (kind.Aggregate size step group aggs) (Aggregate whole each reads columns) =
    (size ≡ whole) × (step ≡ each) × Reads (kind.Aggregate size step group aggs) reads × ((if is_some group then 1 else 0) + length aggs ≡ columns)
HasShape _ _ = ⊥
