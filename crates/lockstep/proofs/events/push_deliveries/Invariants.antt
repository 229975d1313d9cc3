use Rattle.std.proofs.Common.{◌≡◌, ◌-◌, ◌≤◌, ◌++◌, replicate}
use Rattle.std.specs.Prelude.{flat_map}
use Rattle.dpc_lists.specs.Lists.{range_with_len}
use Rattle.dpc_model.specs.declared.messages.Event.TheVariants.{Deliver}
use Rattle.world_model.specs.Schedules.{deliveries_of}
use Rattle.world_core.specs.Runs.{world_of}
use Rattle.lockstep.proofs.events.push_deliveries.Given as goal

-- the envelopes up to this number; it stays, where there is none
abbrev pub invariant-loop-k : goal.invariant-loop-k
invariant-loop-k l = record {
  pushed : l.events.items ≡ l.initial.events.items
      ++ flat_map (λ k. replicate (deliveries_of (world_of l.world) l.fates k) (Deliver k)) (range_with_len l.first (l.k - l.first));
  none : l.sent ≤ l.first → l.k ≡ l.first;
}
