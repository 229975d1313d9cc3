use Rattle.law_survivors.proofs.Acked.{acked-done}
use Rattle.law_survivors.proofs.the_spared_have_done_what_others_acknowledged.Goals as goal

pub returns : goal.returns
returns c = acked-done
