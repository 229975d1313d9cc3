use Rattle.script_words.specs.Cursors.{lines_left}
use Rattle.input_parts.proofs.Places.{at_start}
use Rattle.input_parts.proofs.splitting.place_of_part.Goals as goal

pub loop-line-init : goal.loop-line-init
loop-line-init c = at_start c.args.key.now c.args.text.now (lines_left c.of-lines.result) c.of-lines.ensures
