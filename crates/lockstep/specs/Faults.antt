-- The fault of a run for that of an event.
use Rattle.world_core.specs.declared.faults.ApplyFault.{ApplyFault}
use Rattle.world_core.specs.declared.faults.ApplyFault.TheVariants as of_apply
use Rattle.lockstep.specs.declared.faults.RunFault.{RunFault}
use Rattle.lockstep.specs.declared.faults.RunFault.TheVariants as of_run

abbrev pub fault_of : ApplyFault → RunFault
fault_of of_apply.NoMemory = of_run.NoMemory
fault_of of_apply.Spent = of_run.NoMemory
fault_of (of_apply.TooLong envelopes items) = of_run.TooLong envelopes items
