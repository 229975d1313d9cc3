-- The exit status of each end of a command.
use Rattle.std.specs.Prelude.{ℕ}
use Rattle.borealis_top.specs.declared.status.Status.{Status}
use Rattle.borealis_top.specs.declared.status.Status.TheVariants.{Done, Words, Refused, NoMemory, NotSettled, ReadFault, WriteFault, TooLong}

abbrev pub code_of : Status → ℕ
code_of Done = 0
code_of Words = 1
code_of Refused = 2
code_of NoMemory = 3
code_of NotSettled = 4
code_of ReadFault = 5
code_of WriteFault = 6
code_of TooLong = 7
