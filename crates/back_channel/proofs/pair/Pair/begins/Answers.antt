use Rattle.std.proofs.Common.{ap, sym, ◌∙◌}
use Rattle.back_channel.specs.declared.side.Side.{Side}
use Rattle.back_channel.proofs.Stepping.{compared-same}
use Rattle.back_channel.proofs.pair.Pair.begins.Goals as goal

pub returns-then-told-self : goal.returns-then-told-self
returns-then-told-self c = compared-same c.args.told c.args.self.now c.if-told-self.true (ap (λ (s : Side). s.before) (sym c.side-old.ensures) ∙ c.in_default.is)
