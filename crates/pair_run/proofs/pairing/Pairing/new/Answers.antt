use Rattle.std.proofs.Common.{refl}
use Rattle.pair_run.proofs.Seeing.{begins}
use Rattle.pair_run.proofs.pairing.Pairing.new.Goals as goal

pub returns-clause-seen : goal.returns-clause-seen
returns-clause-seen c = λ plan. begins plan (record { first = c.args.first; second = c.args.second; first_mark = 0; second_mark = 0; pair = c.new.result; items = c.new-2.result }) c.new-2.ensures.items c.new.ensures refl refl
