use Rattle.std.proofs.Common.{◌≡◌, map, take}
use Rattle.dpc_lists.specs.Lists.{range_with_len}
use Rattle.dpc_model.specs.declared.operators.Wire.TheVariants.{Port}
use Rattle.fragment_mill.proofs.stage.are_straight.Given as goal

abbrev pub invariant-loop-port : goal.invariant-loop-port
invariant-loop-port l = take l.port l.reads ≡ map Port (range_with_len 0 l.port)
