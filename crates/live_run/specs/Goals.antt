-- How the cursors that nodes must reach stand for the targets of the progress.
use Rattle.std.specs.Prelude.{◌≡◌, ◌⊎◌, ◌+◌, ℕ, Bool, true, nat_le, ◌==◌, ◌&&◌, List, Some, None}
use Rattle.dpc_lists.specs.Lists.{nth, list_any, list_all}
use Rattle.world_model.specs.Worlds.{World, node_at, ready_at}

-- an actor stands at a cursor or past it, or is no node that is up
abbrev pub is_reached : World → ℕ → ℕ → Bool
is_reached w a goal = nat_le goal (elim (node_at w a) [ None ↦ goal | Some n ↦ n.cursor ])

-- the cursor that all ready buckets of an actor lie below, 0 where it is no node that is up
abbrev pub goal_in : World → ℕ → ℕ
goal_in w a = elim (node_at w a) [ None ↦ 0 | Some n ↦ n.cursor + ready_at w a ]

-- each target is its actor's cursor, and each cursor but 0 is that of a target
pub record StandsForTargets (goals : List ℕ) (ts : List (ℕ × ℕ)) : Type 0 where
  pub noted : list_all (λ (t : ℕ × ℕ). t.1 == nth 0 goals t.0) ts ≡ true
  pub given : (a : ℕ) → (nth 0 goals a ≡ 0) ⊎ (list_any (λ (t : ℕ × ℕ). t.0 == a && t.1 == nth 0 goals a) ts ≡ true)
