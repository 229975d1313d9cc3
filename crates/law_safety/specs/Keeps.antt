-- What one event keeps of a world.
use Rattle.std.specs.Prelude.{ℕ, ◌≤◌}
use Rattle.dpc_model.specs.Actors.{nodes_of}
use Rattle.world_model.specs.Worlds.{World}
use Rattle.world_model.specs.Safe.{IsSafeWorld}
use Rattle.world_model.specs.Orderly.{IsOrderlyWorld}

-- a world that is safe and orderly, with a limit on sessions, asks and tries that is at least 1
pub record IsFineWorld (w : World) (most : ℕ) : Type 0 where
  pub some : 1 ≤ most
  pub safe : IsSafeWorld w (nodes_of w.plan)
  pub orderly : IsOrderlyWorld w (nodes_of w.plan) most
