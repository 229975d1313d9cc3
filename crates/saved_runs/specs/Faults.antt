-- The fault of a run with saves for that of its parts.
use Rattle.lockstep.specs.declared.faults.RunFault.{RunFault}
use Rattle.lockstep.specs.declared.faults.RunFault.TheVariants as of_run
use Rattle.phase_saves.specs.declared.kept.SaveStop.{SaveStop}
use Rattle.phase_saves.specs.declared.kept.SaveStop.TheVariants as of_save
use Rattle.saved_runs.specs.declared.faults.SavesFault.{SavesFault}
use Rattle.saved_runs.specs.declared.faults.SavesFault.TheVariants as of_saves

abbrev pub fault_of : RunFault → SavesFault
fault_of of_run.NoMemory = of_saves.NoMemory
fault_of (of_run.TooLong envelopes items) = of_saves.TooLong envelopes items

abbrev pub stop_fault : SaveStop → SavesFault
stop_fault of_save.NoMemory = of_saves.NoMemory
stop_fault of_save.DiskFault = of_saves.DiskFault
