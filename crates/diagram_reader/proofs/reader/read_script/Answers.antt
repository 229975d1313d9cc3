use Rattle.diagram_reader.proofs.TakenLines.{long_reading}
use Rattle.diagram_reader.proofs.reader.read_script.Goals as goal

pub returns-then-text-gt-MOST_BYTES : goal.returns-then-text-gt-MOST_BYTES
returns-then-text-gt-MOST_BYTES c = long_reading c.args.text.now c.if-text-gt-MOST_BYTES.true
