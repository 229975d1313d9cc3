use Rattle.std.proofs.Common.{refl}
use Rattle.back_channel.proofs.Holding.{drops-cleaned}
use Rattle.back_channel.proofs.side.Side.clean.Goals as goal

pub returns-then-self-bound-clause-drops : goal.returns-then-self-bound-clause-drops
returns-then-self-bound-clause-drops c = drops-cleaned c.args.bound c.args.self.now _ c.if-self-bound.true refl c.drop_below.ensures refl refl
