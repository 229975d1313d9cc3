use Rattle.std.proofs.Common.{refl}
use Rattle.back_channel.proofs.Holding.{reads-boundary}
use Rattle.back_channel.proofs.known.Known.read_boundary.Goals as goal

pub returns : goal.returns
returns c = reads-boundary c.args.self.now _ c.args.side.now c.args.bound c.args.count refl c.max-self.ensures
