-- What is made of a run while it goes on.
use Rattle.std.specs.Prelude.{◌≡◌, length}
use Rattle.law_safety.specs.Plans.{IsCheckedPlan}
use Rattle.world_core.specs.Runs.{RunOf, world_of}
use Rattle.world_model.specs.Worlds.{client_at}
use Rattle.back_channel.specs.Standing.{StandsFor}
use Rattle.law_pairs.specs.Pairs.{held_at, pair_items, AreReaders}
use Rattle.pair_run.specs.declared.pairing.Pairing.{Pairing}

-- its items are those of the run, and it knows what both clients hold and how much they took
pub record HasTold (run : RunOf) (p : Pairing) : Type 0 where
  pub items : p.items.items ≡ pair_items run.plan run.events p.first p.second
  pub stands : StandsFor p.pair (held_at (world_of run) p.first) (held_at (world_of run) p.second)
  pub first_mark : p.first_mark ≡ length (client_at (world_of run) p.first).taken
  pub second_mark : p.second_mark ≡ length (client_at (world_of run) p.second).taken

-- so it is where they are two clients of one stream; they are still those that it began with
pub record HasSeen (start : Pairing) (run : RunOf) (p : Pairing) : Type 0 where
  pub first : p.first ≡ start.first
  pub second : p.second ≡ start.second
  pub told : IsCheckedPlan run.plan → AreReaders run.plan p.first p.second → HasTold run p
