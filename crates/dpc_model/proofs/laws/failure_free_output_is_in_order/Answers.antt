use Rattle.dpc_model.proofs.Order.{ideal_upto-InOrder}
use Rattle.dpc_model.proofs.laws.failure_free_output_is_in_order.Goals as goal

pub returns : goal.returns
returns c = ideal_upto-InOrder
