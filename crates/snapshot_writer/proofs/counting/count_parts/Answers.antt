use Rattle.std.proofs.Common.{arith}
use Rattle.fragment_mill.specs.States.{parts_of}
use Rattle.fragment_mill.specs.Views.{shown}
use Rattle.snapshot_writer.proofs.Sizes.{parts-more}
use Rattle.snapshot_writer.proofs.counting.count_parts.Goals as goal

pub loop-i-preserved : goal.loop-i-preserved
loop-i-preserved c =
    let more = parts-more (parts_of c.args.mill.now).operators c.loop-i.i (shown c.kept.result) c.kept.ensures in
    let part = c.count_part.ensures in
    let sum = c.saturating_add-count.ensures in
    let before = c.loop-i.invariant in
    omega (arith, more, part, sum, before)
