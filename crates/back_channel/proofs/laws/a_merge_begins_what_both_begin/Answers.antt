use Rattle.back_channel.proofs.Sources.{merge-begins}
use Rattle.back_channel.proofs.laws.a_merge_begins_what_both_begin.Goals as goal

pub returns : goal.returns
returns c = merge-begins
