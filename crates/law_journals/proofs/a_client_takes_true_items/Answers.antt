use Rattle.law_journals.proofs.Items.{takes-more, taken-grows, taken-true}
use Rattle.law_journals.proofs.a_client_takes_true_items.Goals as goal

pub returns : goal.returns
returns c = record { more = takes-more; grows = taken-grows; are_true = taken-true }
