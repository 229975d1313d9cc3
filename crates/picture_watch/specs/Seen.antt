-- What a watcher has made of a run.
use Rattle.std.specs.Prelude.{◌≡◌, ℕ, false, List, Option, map}
use Rattle.dpc_lists.specs.Lists.{push}
use Rattle.dpc_model.specs.declared.messages.Event.{Event}
use Rattle.dpc_model.specs.declared.plans.Plan.{Plan}
use Rattle.picture_model.specs.Drawing.{Drawing, drawn, drawing, column_of, columns_at}
use Rattle.picture_model.specs.Marking.{promises_of}
use Rattle.picture_model.specs.Points.{replica_state}
use Rattle.picture_model.specs.declared.columns.ReplicaState.{ReplicaState}
use Rattle.world_core.specs.Runs.{RunOf, world_of}
use Rattle.world_model.specs.Events.{is_phase}
use Rattle.world_model.specs.Schedules.{node_actors}
use Rattle.world_model.specs.Worlds.{World, happens, node_at}
use Rattle.picture_watch.specs.Tallies.{AreTallied}
use Rattle.picture_watch.specs.declared.watch.Picturing.{Picturing}

abbrev pub drawing_in : Picturing → Drawing
drawing_in p = record { columns = p.columns.items; promises = p.promises.items; number = p.number; clock = p.clock; sources = p.sources.items; marks = p.marks.items }

-- its drawing is that of the events so far, and it knows which links are cut and what clients took
pub record HasDrawn (run : RunOf) (p : Picturing) : Type 0 where
  pub drawing : drawing_in p ≡ drawing run.plan run.events
  pub cuts : p.cuts.items ≡ (world_of run).cuts
  pub tallies : AreTallied run.plan (world_of run) p.tallies.items

-- ---- steps

-- the column of the phase that runs was added, with what the replicas are and have promised
pub record IsAdded (run : RunOf) (states : List ReplicaState) (promises : List (Option ℕ)) (old new : Picturing) : Type 0 where
  pub promises_stay : new.promises ≡ old.promises
  pub number : new.number ≡ old.number
  pub clock : new.clock ≡ old.clock
  pub sources : new.sources ≡ old.sources
  pub cuts : new.cuts ≡ old.cuts
  pub losses : new.losses ≡ old.losses
  pub columns : states ≡ map (λ a. replica_state (node_at (world_of run) a)) (node_actors run.plan) → promises ≡ promises_of run.plan (world_of run)
      → old.cuts.items ≡ (world_of run).cuts → AreTallied run.plan (world_of run) old.tallies.items
      → new.columns.items ≡ push old.columns.items (column_of run.plan (world_of run) (drawing_in old))
  pub tallies : AreTallied run.plan (world_of run) old.tallies.items → AreTallied run.plan (world_of run) new.tallies.items

-- the phase that runs is over: where there is one, its column was added
pub record IsClosed (run : RunOf) (old new : Picturing) : Type 0 where
  pub promises : new.promises.items ≡ promises_of run.plan (world_of run)
  pub number : new.number ≡ old.number
  pub clock : new.clock ≡ old.clock
  pub sources : new.sources ≡ old.sources
  pub cuts : new.cuts ≡ old.cuts
  pub losses : new.losses ≡ old.losses
  pub columns : old.cuts.items ≡ (world_of run).cuts → AreTallied run.plan (world_of run) old.tallies.items
      → new.columns.items ≡ columns_at run.plan (world_of run) (drawing_in old)
  pub tallies : AreTallied run.plan (world_of run) old.tallies.items → AreTallied run.plan (world_of run) new.tallies.items

-- what an event tells that opens no phase was noted
pub record IsNoted (plan : Plan) (e : Event) (old new : Picturing) : Type 0 where
  pub drawing : (w : World) → is_phase e ≡ false → drawing_in new ≡ drawn plan w e (drawing_in old)
  pub cuts : new.cuts ≡ old.cuts
  pub losses : new.losses ≡ old.losses
  pub tallies : new.tallies ≡ old.tallies

-- it knows which links are cut behind an event
pub record IsLinked (plan : Plan) (e : Event) (old new : Picturing) : Type 0 where
  pub drawing : drawing_in new ≡ drawing_in old
  pub losses : new.losses ≡ old.losses
  pub cuts : (w : World) → w.plan ≡ plan → old.cuts.items ≡ w.cuts → new.cuts.items ≡ (happens w e).cuts
  pub tallies : new.tallies ≡ old.tallies
