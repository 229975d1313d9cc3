use Rattle.std.proofs.Common.{◌∙◌}
use Rattle.script_rules.specs.Statements.{number_at}
use Rattle.dpc_model.specs.declared.scripts.Directive.TheVariants.{Release}
use Rattle.script_words.specs.Cursors.{words_left}
use Rattle.diagram_reader.proofs.Numbered.{release_time}
use Rattle.diagram_reader.proofs.statements.release.Goals as goal

pub number_at-time-requires : goal.number_at-time-requires
number_at-time-requires c = release_time _ _ c.requires.end c.requires.faultless

pub returns-in_ok-add_directive-in-Ok : goal.returns-in_ok-add_directive-in-Ok
returns-in_ok-add_directive-in-Ok c =
    let said = c.in-Ok.ensures Release (number_at (words_left c.args.words) 1) in
    (said.0, (rw c.number_at-time.ensures at c.in_ok-add_directive-in-Ok.ensures.ok) ∙ said.1)
