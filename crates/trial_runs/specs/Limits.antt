-- The numbers that the limits of a run are on, counted for the smallest run.
use Rattle.std.specs.Prelude.{◌≡◌, false, refl}
use Rattle.dpc_model.specs.declared.messages.Event.TheVariants.{Tick}
use Rattle.world_model.specs.Worlds.{run, sums_of, sums_after, passes_limit}
use Rattle.world_model.specs.Schedules.{lockstep_journal}
use Rattle.trial_runs.specs.Opened.{all_opened}
use Rattle.trial_runs.specs.SmallestRun.{script}

-- two batches, of three tuples and a boundary and of two tuples and a boundary; and four beats and acknowledgements in each of four phases
pub items : (sums_of (run script.plan (lockstep_journal script))).items ≡ 7
unfolding all_opened
items = refl

pub envelopes : (sums_of (run script.plan (lockstep_journal script))).envelopes ≡ 18
unfolding all_opened
envelopes = refl

-- a tick of the node more sends an acknowledgement and a beat
pub one_more : (sums_after (run script.plan (lockstep_journal script)) (Tick 1 5)).envelopes ≡ 20
unfolding all_opened
one_more = refl

pub within : passes_limit (run script.plan (lockstep_journal script)) (Tick 1 5) ≡ false
unfolding all_opened
within = refl
