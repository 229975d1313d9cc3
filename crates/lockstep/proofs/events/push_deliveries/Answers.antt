use Rattle.std.proofs.Common.{arith, ap, ◌∙◌, ◌-◌, ◌++◌, ℕ, replicate}
use Rattle.dpc_model.specs.declared.messages.Event.TheVariants.{Deliver}
use Rattle.world_model.specs.Schedules.{deliveries_of}
use Rattle.world_core.specs.Runs.{world_of}
use Rattle.lockstep.proofs.Counting.{flat-more}
use Rattle.lockstep.proofs.events.push_deliveries.Goals as goal

pub loop-k-preserved : goal.loop-k-preserved
loop-k-preserved c = record {
  pushed = flat-more (λ k. replicate (deliveries_of (world_of c.args.world.now) c.args.fates.now k) (Deliver k)) c.args.first (c.loop-k.k - c.args.first) c.loop-k.k _ c.args.events.now.items c.loop-k.events.items _ (omega arith) (omega arith)
      c.loop-k.invariant.pushed (c.in_ok-push_times.ensures ∙ ap (λ (n : ℕ). c.loop-k.events.items ++ replicate n (Deliver c.loop-k.k)) c.deliveries.ensures);
  none = λ h. absurd (omega (arith, h));
}
