-- The parts of a sound plan, as they are tested.
use Rattle.std.specs.Prelude.{⊤, ℕ, ◌<◌, ◌≤◌, List, length}
use Rattle.std.specs.List.{AllAdjacentBelow}
use Rattle.dpc_model.specs.declared.tuples.Tuple.{Tuple}
use Rattle.dpc_model.specs.declared.plans.StreamRef.{StreamRef}
use Rattle.dpc_model.specs.declared.plans.StreamRef.TheVariants.{Source, Frag}

-- no tuple is later than the next
abbrev pub HasOrder : List Tuple → Type 0
HasOrder ts = AllAdjacentBelow (λ (t u : Tuple). t.stime ≤ u.stime) ts (length ts)

-- a source, or one of the first n fragments
abbrev pub IsSoundRead : ℕ → StreamRef → Type 0
IsSoundRead n (Source s) = ⊤
IsSoundRead n (Frag f) = f < n
