use Rattle.std.proofs.Common.{refl}
use Rattle.phase_saves.proofs.node.SavingNode.new.Goals as goal

pub returns-in-Ok-clause-begun : goal.returns-in-Ok-clause-begun
returns-in-Ok-clause-begun g c = λ honest. record { rests = c.in-Ok.ensures.rests honest; nothing = λ plan. record { last = refl; kept = c.in-Ok.ensures.none honest plan c.args.frag } }
