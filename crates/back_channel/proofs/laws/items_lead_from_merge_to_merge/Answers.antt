use Rattle.back_channel.proofs.Leading.{leads}
use Rattle.back_channel.proofs.laws.items_lead_from_merge_to_merge.Goals as goal

pub returns : goal.returns
returns c = leads
