use Rattle.audit_core.proofs.Lawful.{refused-at}
use Rattle.audit_core.proofs.laws.a_refusal_names_the_first_item_without_a_reading.Goals as goal

pub returns : goal.returns
returns c = refused-at
