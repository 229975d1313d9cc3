-- Each stream had no fault before.
use Rattle.borealis_top.proofs.program.over_streams.Goals as goal

-- the faults that each stream has after all
pub returns : goal.returns
returns g c =
    record { input = c.over.new.input.faults; out = c.over.new.out.faults; err = c.over.new.err.faults; ends = rw (c.new-input.ensures.faults, c.new-out.ensures.faults, c.new-err.ensures.faults) at c.over.ensures }
