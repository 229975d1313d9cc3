use Rattle.std.proofs.Common.{take}
use Rattle.ideal_run.specs.Buckets.{IsUnderWay}
use Rattle.ideal_run.proofs.Texts.{clients_text}
use Rattle.ideal_run.proofs.write_ideal.Given as goal

-- the lines of the first clients are written or held
abbrev pub invariant-loop-client : goal.invariant-loop-client
invariant-loop-client g l = IsUnderWay (g.K.Sink.edge l.fn.out) (g.K.Sink.edge l.out) (clients_text l.plan (take l.client-index l.plan.clients)) l.lines.text.items
