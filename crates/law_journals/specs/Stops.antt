-- What a journal is like where its replay stops.
use Rattle.std.specs.Prelude.{◌≡◌, ℕ, true, false, List, take, Some, None, slice_get}
use Rattle.dpc_model.specs.declared.messages.Event.{Event}
use Rattle.dpc_model.specs.declared.scripts.Script.{Script}
use Rattle.world_model.specs.Worlds.{Sums, run, sums_after, passes_limit, excess}
use Rattle.world_model.specs.Schedules.{may, is_live_so_far, is_live}

-- all entries may come and pass no limit, and the run is at its end or not
pub record EndsWhole (script : Script) (events : List Event) : Type 0 where
  pub live : is_live script events ≡ true
  pub within : excess script.plan events ≡ None

pub record EndsEarly (script : Script) (events : List Event) : Type 0 where
  pub so_far : is_live_so_far script events ≡ true
  pub within : excess script.plan events ≡ None
  pub unfinished : is_live script events ≡ false

-- the entries before number k may come and pass no limit, and this one is number k
pub record Reaches (script : Script) (events : List Event) (k : ℕ) (e : Event) : Type 0 where
  pub there : slice_get events k ≡ Some e
  pub so_far : is_live_so_far script (take k events) ≡ true
  pub within : excess script.plan (take k events) ≡ None

-- it may not come
pub record IsRefusedAt (script : Script) (events : List Event) (k : ℕ) : Type 0 where
  pub entry : Event
  pub reaches : Reaches script events k entry
  pub may_not : may script (take k events) entry ≡ false

-- it may, and would pass a limit
pub record PassesAt (script : Script) (events : List Event) (k : ℕ) (reached : Sums) : Type 0 where
  pub entry : Event
  pub reaches : Reaches script events k entry
  pub may_come : may script (take k events) entry ≡ true
  pub passes : passes_limit (run script.plan (take k events)) entry ≡ true
  pub sums : sums_after (run script.plan (take k events)) entry ≡ reached
