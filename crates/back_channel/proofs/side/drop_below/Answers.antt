use Rattle.std.proofs.Common.{nat_le, rules, tests}
use Rattle.std.proofs.lemmas.Fn.{filter_same}
use Rattle.dpc_model.specs.declared.tuples.Tuple.{Tuple}
use Rattle.back_channel.proofs.side.drop_below.Goals as goal

pub returns : goal.returns
returns c = filter_same _ (λ (t : Tuple). nat_le c.args.time t.stime) _ (λ x b q h. (search (rules, tests), search (rules, tests))) _ _ c.retain.ensures.filtered
