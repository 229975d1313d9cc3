use Rattle.std.proofs.Common.{◌∙◌}
use Rattle.dpc_model.specs.declared.scripts.Directive.TheVariants.{Lose}
use Rattle.diagram_reader.proofs.statements.lose.Goals as goal

pub returns-in_ok-add_directive-in-Ok : goal.returns-in_ok-add_directive-in-Ok
returns-in_ok-add_directive-in-Ok c = let said = c.in-Ok.ensures Lose in (said.0, c.in_ok-add_directive-in-Ok.ensures.ok ∙ said.1)
