use Rattle.std.proofs.Common.{arith}
use Rattle.std.proofs.lemmas.Grind.{common_steps}
use Rattle.dpc_model.proofs.Serial.{at_port-serial}
use Rattle.trial_ideal.proofs.Ordered.{AllInOrder-from}
use Rattle.trial_ideal.proofs.carried.Goals as goal

pub returns-in-Port : goal.returns-in-Port
returns-in-Port c = grind (arith, common_steps, at_port-serial c.args.ports.now c.in-Port.p (AllInOrder-from c.args.ports.now c.requires))
