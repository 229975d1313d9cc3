use Rattle.std.proofs.Common.{arith}
use Rattle.diagram_reader.proofs.TakenLines.{begun_reading, few_lines}
use Rattle.diagram_reader.proofs.reader.read_lines.Goals as goal

pub loop-line-init : goal.loop-line-init
loop-line-init c =
    let few = few_lines c.args.text.now in
    record {
      same = rw (c.new-draft.ensures, c.of-lines.ensures) (begun_reading c.args.text.now c.requires);
      few = rw c.of-lines.ensures (omega (arith, few));
    }
