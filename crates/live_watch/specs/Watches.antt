-- What a run that is watched ends with.
use Rattle.std.specs.Prelude.{ℕ, List}
use Rattle.dpc_model.specs.declared.scripts.Script.{Script}
use Rattle.world_core.specs.Runs.{RunOf, world_of}
use Rattle.node_threads.specs.Lives.{IsLiveRun}
use Rattle.client_views.specs.Watching.{AreWatched}
use Rattle.client_views.specs.declared.watched.Watched.{Watched}

-- a complete live run of the script, and what so many readers saw of its clients at the end
pub record IsWatchedRun (script : Script) (readers : ℕ) (w : RunOf) (watched : List Watched) : Type 0 where
  pub run : IsLiveRun script w
  pub seen : AreWatched script.plan (world_of w).clients readers watched
