use Rattle.std.proofs.Common.{◌∙◌}
use Rattle.dpc_model.specs.declared.scripts.Directive.TheVariants.{Heal}
use Rattle.diagram_reader.proofs.statements.heal.Goals as goal

pub returns-in_ok-add_directive-in-Ok : goal.returns-in_ok-add_directive-in-Ok
returns-in_ok-add_directive-in-Ok c = let said = c.in-Ok.ensures Heal in (said.0, c.in_ok-add_directive-in-Ok.ensures.ok ∙ said.1)
