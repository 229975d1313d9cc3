-- Watching replicas, and the choice among them.
use Rattle.std.specs.Prelude.{ℕ, ◌+◌, Bool, false, ◌||◌, ◌==◌, nat_lt, nat_le, min, if◌then◌else◌, List, map, Option, Some, None, is_some, unwrap_or}
use Rattle.dpc_lists.specs.Lists.{nth, least, place_of}
use Rattle.dpc_model.specs.declared.messages.NodeState.{NodeState}
use Rattle.dpc_model.specs.declared.messages.NodeState.TheVariants as state
use Rattle.dpc_model.specs.declared.messages.Rank.{Rank}
use Rattle.dpc_model.specs.declared.messages.Rank.TheVariants.{Stable, UpFailure, Stabilizing, Absent}

-- what is known of one replica: the newest incarnation, the lesser of 4 and the ticks since the last beat noted, what that beat said,
-- and the base of a truncation
pub record Watch : Type 0 where
  pub inc : ℕ
  pub ticks : ℕ
  pub said : Option (NodeState × Bool)
  pub truncated : Option ℕ

abbrev pub new_watch : Watch
new_watch = record { inc = 0; ticks = 0; said = None; truncated = None }

-- a beat comes; that of an earlier incarnation is ignored
abbrev pub after_beat : ℕ → NodeState → Bool → Watch → Watch
after_beat i s recovering w = if nat_lt i w.inc then w else record w { inc = i; ticks = 0; said = Some (s, recovering) }

-- one tick is counted: the third is told from later ones, and those not from one another
abbrev pub after_tick : Watch → Watch
after_tick w = record w { ticks = min 4 (w.ticks + 1) }

abbrev pub with_mark : ℕ → Watch → Watch
with_mark base w = record w { truncated = Some base }

-- a mark ends once the count of tuples is at least its base
abbrev pub unmarked_at : ℕ → Option ℕ → Option ℕ
unmarked_at n None = None
unmarked_at n (Some base) = if nat_le base n then None else Some base

abbrev pub after_count : ℕ → Watch → Watch
after_count n w = record w { truncated = unmarked_at n w.truncated }

abbrev pub rank_said : NodeState → Rank
rank_said state.Stable = Stable
rank_said state.UpFailure = UpFailure
rank_said state.Stabilization = Stabilizing

-- the rank by the last beat: Stable before any, Stabilizing where it says recovering
abbrev pub rank_by : Option (NodeState × Bool) → Rank
rank_by None = Stable
rank_by (Some s) = if s.1 then Stabilizing else rank_said s.0

-- the number of ticks without a beat that tell that a replica is absent
abbrev pub absent_after : ℕ
absent_after = 3

-- absent: so many ticks brought no beat, or it truncated what the reader asks for
abbrev pub is_absent : Watch → Bool
is_absent w = nat_le absent_after w.ticks || is_some w.truncated

abbrev pub rank_of : Watch → Rank
rank_of w = if is_absent w then Absent else rank_by w.said

-- the last beat noted says recovering
abbrev pub says_recovering : Watch → Bool
says_recovering w = elim w.said [ None ↦ false | Some s ↦ s.1 ]

-- the order of ranks, the best first
abbrev pub rank_order : Rank → ℕ
rank_order Stable = 0
rank_order UpFailure = 1
rank_order Stabilizing = 2
rank_order Absent = 3

-- no replica has a better rank than this one
abbrev pub has_best_rank : List Rank → ℕ → Bool
has_best_rank ranks r = let orders = map rank_order ranks in nth 3 orders r == least 3 orders

-- the current replica where no other has a better rank, else the first of the best rank
abbrev pub choose : ℕ → List Rank → ℕ
choose current ranks =
    let orders = map rank_order ranks in
    let best = least 3 orders in
    if nth 3 orders current == best then current else unwrap_or (place_of (λ o. o == best) orders) current
