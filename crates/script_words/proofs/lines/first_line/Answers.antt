use Rattle.script_words.proofs.Cuts.{line_before, line_alone}
use Rattle.script_words.proofs.lines.first_line.Goals as goal

pub returns-in-Some : goal.returns-in-Some
returns-in-Some c = line_before c.args.text.now c.in-Some.i c.in-Some.ensures

pub returns-in-None : goal.returns-in-None
returns-in-None c = line_alone c.args.text.now c.requires c.in-None.ensures
